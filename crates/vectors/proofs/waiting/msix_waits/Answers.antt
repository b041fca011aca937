-- Past the end of the array every byte is 0. Assumes nothing.
use mathlib.Core.Path.{sym, ap, ◌∙◌}
use Prim.Native.Nat.{ℕ, ◌%◌}
use lib.ListN.{get_or-eq_default}
use Rattle.words.proofs.BitLaws.{bit_of_zero}
use Rattle.words.specs.Bits.{bit}
use Rattle.vectors.proofs.waiting.msix_waits.Goals as goal

pub returns-then-pending-i : goal.returns-then-pending-i
returns-then-pending-i c =
    let a = c.args in
    sym (ap (λ (b : ℕ). bit b (a.v.0 % 8)) (get_or-eq_default a.pending.now 0 c.if-pending-i.true) ∙ bit_of_zero (a.v.0 % 8))
