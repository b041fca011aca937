-- 6, or the wire's packet, which alone a reset sends; then the started function. Assumes nothing.
use native.Mathlib.Omega.{arith}
use Rattle.card.proofs.SoundFor.{running_fit, wires-pin}
use Rattle.lifecycle.proofs.ResetFor.{reset-short, reset-done}
use Rattle.lifecycle.proofs.reset.reset_core.Goals as goal

pub returns-then-out-owed_size : goal.returns-then-out-owed_size
returns-then-out-owed_size c =
    reset-short _ _ _ _ c.args.k _ c.requires.1 _ c.set_wire-wired.ensures _ _ c.owed_size.ensures c.if-out-owed_size.true
    c.refuse.ensures

pub send-count-requires : goal.send-count-requires
send-count-requires c =
    (wires-pin c.requires.0 _ c.requires.1, omega (arith, c.if-out-owed_size.false, c.owed_size.ensures))

pub started-function-requires : goal.started-function-requires
started-function-requires c =
    let run = c.requires.0 in
    (run.shaped, running_fit run, run.profiled.form)

pub returns : goal.returns
returns c =
    reset-done _ _ _ _ c.args.k _ c.requires.1 _ c.set_wire-wired.ensures _ _ _ _ _ _ _ c.owed_size.ensures c.if-out-owed_size.false
    c.send-count.ensures c.started-function.ensures c.accepted.ensures
