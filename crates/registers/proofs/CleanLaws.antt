-- The bits of masks are 0 in all bytes exactly if they are in each. Assumes nothing.
use mathlib.Core.Path.{◌≡◌}
use mathlib.Core.List.{List}
use Prim.Native.Nat.{ℕ}
use native.Mathlib.Omega.{arith}
use lib.Bits.{bit_and}
use lib.Dec.{eqb}
use lib.ListN.{length}
use Rattle.words.specs.Lists.{all, all_at, count}
use Rattle.words.proofs.BoolLaws.{same_test}
use Rattle.words.proofs.ListLaws.{all-below, holds_all, member-count, all-at, at_all}
use Rattle.words.proofs.ZeroBits.{clean}
use Rattle.model.specs.Sound.{zero_bits}

pub zero_bits_lem : (mask : ℕ → ℕ) (l : List ℕ) (n : ℕ) → length l ≡ n → zero_bits mask l ≡ all (clean mask l) (count 0 n)
unfolding zero_bits
zero_bits_lem mask l n e =
    same_test (all_at (λ i b. eqb (bit_and (mask i) b) 0) 0 l) (all (clean mask l) (count 0 n))
    (λ h. holds_all (clean mask l) (count 0 n) (λ k m. all-at (λ i b. eqb (bit_and (mask i) b) 0) l k h (omega (arith, (member-count 0 n k m).1))))
    (λ h. at_all (λ i b. eqb (bit_and (mask i) b) 0) l (λ k j. all-below (clean mask l) n k h (omega arith)))
