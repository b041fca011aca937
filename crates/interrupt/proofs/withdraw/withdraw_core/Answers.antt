-- Refused by row 7 or 2, or the bit is cleared: one law for each. Assumes nothing.
use Rattle.interrupt.proofs.WithdrawFor.{withdraw-pin, withdraw-beyond, withdraw-done}
use mathlib.Core.Path.{sym, ◌∙◌}
use native.Mathlib.Omega.{arith}
use Rattle.interrupt.proofs.withdraw.withdraw_core.Goals as goal

pub returns-then-is_pin : goal.returns-then-is_pin
returns-then-is_pin c =
    λ card t ew run. rw c.refused.ensures (withdraw-pin card t _ _ run _ ew _ (sym c.is_pin.ensures ∙ c.if-is_pin.true))

pub returns-then-vector_count-n : goal.returns-then-vector_count-n
returns-then-vector_count-n c =
    λ card t ew run.
    rw c.refused-then-vector_count-n.ensures
    (withdraw-beyond card t _ _ run _ ew _ (sym c.is_pin.ensures ∙ c.if-is_pin.false)
    (omega (arith, c.vector_count.ensures, c.if-vector_count-n.true)))

pub returns : goal.returns
returns c =
    λ card t ew run.
    rw c.quiet.ensures
    (withdraw-done card t _ _ run _ ew _ (sym c.is_pin.ensures ∙ c.if-is_pin.false)
    (omega (arith, c.vector_count.ensures, c.if-vector_count-n.false)) _ _ _ c.change_bit-left.ensures c.waits-was_set.ensures)
