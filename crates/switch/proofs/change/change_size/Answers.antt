use native.Mathlib.Omega.{arith}
use Rattle.switch.proofs.WriteLaws.{none-sent, one-sent}
use Rattle.switch.proofs.change.change_size.Goals as goal

pub returns-then-before-after : goal.returns-then-before-after
returns-then-before-after c = (omega arith, λ requester pin. none-sent requester pin _ _ c.if-before-after.true)

pub returns-else-before-after : goal.returns-else-before-after
returns-else-before-after c = (omega arith, λ requester pin. one-sent requester pin _ _ c.if-before-after.false)
