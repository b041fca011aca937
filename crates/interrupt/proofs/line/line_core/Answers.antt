-- 6, or the wire's packet. Assumes nothing.
use native.Mathlib.Omega.{arith}
use Rattle.card.proofs.SoundFor.{wires-pin}
use Rattle.interrupt.proofs.LineFor.{line-short, line-done}
use Rattle.interrupt.proofs.line.line_core.Goals as goal

pub returns-then-out-owed_size : goal.returns-then-out-owed_size
returns-then-out-owed_size c =
    line-short _ _ _ _ _ c.requires.0 _ c.requires.1 _ _ c.set_line-wired.ensures _ _ c.owed_size.ensures c.if-out-owed_size.true
    c.refuse.ensures

pub put_owed-count-requires : goal.put_owed-count-requires
put_owed-count-requires c =
    (wires-pin c.requires.0 _ c.requires.1, omega (arith, c.if-out-owed_size.false, c.owed_size.ensures))

pub returns : goal.returns
returns c =
    line-done _ _ _ _ _ c.requires.0 _ c.requires.1 _ _ c.set_line-wired.ensures _ _ _ _ _ c.owed_size.ensures
    c.if-out-owed_size.false c.put_owed-count.ensures c.with_line-function.ensures c.accepted.ensures
