-- Nothing, or the wire's packet. Assumes nothing.
use native.Mathlib.Omega.{arith}
use Rattle.switch.specs.Calls.{own_requester}
use Rattle.switch.proofs.WriteLaws.{one-sent, none_written, one_written}
use Rattle.switch.proofs.change.put_change.Goals as goal

pub returns-then-before-after : goal.returns-then-before-after
returns-then-before-after c = none_written _ _ _ _ c.if-before-after.true _

pub put_wire-requires : goal.put_wire-requires
put_wire-requires c =
    let a = c.args in
    (c.requires.0, omega (arith, c.requires.1, one-sent a.requester a.pin a.before a.after c.if-before-after.false))

pub returns : goal.returns
unfolding own_requester
returns c =
    one_written _ _ _ _ c.if-before-after.false _ _ _ c.put_wire.ensures
