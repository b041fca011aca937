-- The bits of the pending array at or above n: those of the last word, from bit n mod 64 on. Assumes nothing.
use mathlib.Core.Path.{◌≡◌, sym, ap, ◌∙◌}
use mathlib.Core.Bool.{Bool, true, false, not}
use mathlib.Core.List.{List}
use Prim.Native.Nat.{ℕ, ◌+◌, ◌-◌, ◌*◌, ◌/◌, ◌%◌, ◌^◌, ◌≤◌, ◌<◌}
use native.Mathlib.Omega.{arith}
use lib.Dec.{ltb, eqb}
use lib.ListN.{length}
use borrow.Author.Tests.{eq-eqb, eqb-true, ltb-true, ltb-false, not-true}
use Rattle.words.specs.Lists.{all, count}
use Rattle.words.specs.Bits.{bit}
use Rattle.words.specs.Bytes.{word64, Bytes}
use Rattle.words.proofs.BoolLaws.{by_test, same_test}
use Rattle.words.proofs.BitLaws.{bit_of_zero, bit_above, bit_shift, bits_ext}
use Rattle.words.proofs.ByteLaws.{word64-lt}
use Rattle.words.proofs.ListLaws.{all_holds, holds_all, member-count, count-member}
use Rattle.release.proofs.PendingWords.{word-bit}
use Rattle.model.specs.Vectors.{pending_bit}

-- a whole number of words: there are none
pub beyond-none : (f : ℕ → Bool) (n len : ℕ) → len ≡ 8 * ((n + 63) / 64) → n % 64 ≡ 0 → true ≡ all f (count n (8 * len - n))
unfolding all count
beyond-none f n len h e = let z : 8 * len - n ≡ 0 = omega arith in rw z

module _ (p : List ℕ) (n : ℕ) (b : Bytes p) (h : length p ≡ 8 * ((n + 63) / 64)) (g : n % 64 ≡ 0 → ⊥) where
  w : ℕ
  w = word64 p (n / 64 * 8)

  -- bit i of what is shifted
  bit_from : (i : ℕ) → i < 64 - n % 64 → bit (w / 2 ^ (n % 64)) i ≡ pending_bit p (n + i)
  unfolding w
  bit_from i l =
      let e : 8 * (n / 64 * 8) + (n % 64 + i) ≡ n + i = omega arith in
      bit_shift w (n % 64) i ∙ word-bit p (n / 64 * 8) (n % 64 + i) b (omega arith) ∙ ap (pending_bit p) e

  clear_above : (i : ℕ) → 64 - n % 64 ≤ i → bit (w / 2 ^ (n % 64)) i ≡ false
  unfolding w
  clear_above i l = bit_shift w (n % 64) i ∙ bit_above 64 w (n % 64 + i) (word64-lt p (n / 64 * 8) b) (omega arith)

  size : 8 * length p - n ≡ 64 - n % 64
  size = omega (arith, g)

  pub beyond_word : eqb (word64 p (n / 64 * 8) / 2 ^ (n % 64)) 0 ≡ all (λ v. not (pending_bit p v)) (count n (8 * length p - n))
  unfolding w
  beyond_word =
      same_test (eqb (w / 2 ^ (n % 64)) 0) (all (λ v. not (pending_bit p v)) (count n (8 * length p - n)))
      (λ e. holds_all (λ v. not (pending_bit p v)) (count n (8 * length p - n)) (λ v m. ap not (none (eqb-true (w / 2 ^ (n % 64)) 0 e) v (member-count n (8 * length p - n) v m))))
      (λ e. eq-eqb (w / 2 ^ (n % 64)) 0 (bits_ext (w / 2 ^ (n % 64)) 0 (λ i. zero_bit e i ∙ sym (bit_of_zero i))))
    where
      none : w / 2 ^ (n % 64) ≡ 0 → (v : ℕ) → (n ≤ v) × (v < n + (8 * length p - n)) → pending_bit p v ≡ false
      none e v m =
          let d : n + (v - n) ≡ v = omega (arith, m) in
          let q : bit (w / 2 ^ (n % 64)) (v - n) ≡ pending_bit p v = rw d at (bit_from (v - n) (omega (arith, m, size))) in
          sym q ∙ ap (λ (y : ℕ). bit y (v - n)) e ∙ bit_of_zero (v - n)

      zero_bit : all (λ v. not (pending_bit p v)) (count n (8 * length p - n)) ≡ true → (i : ℕ) → bit (w / 2 ^ (n % 64)) i ≡ false
      zero_bit e i =
          by_test (ltb i (64 - n % 64))
          (λ t.
          let l : i < 64 - n % 64 = ltb-true i (64 - n % 64) t in
          bit_from i l
          ∙ not-true (pending_bit p (n + i))
          (all_holds (λ v. not (pending_bit p v)) (count n (8 * length p - n)) e (n + i) (count-member n (8 * length p - n) (n + i) (omega arith) (omega (arith, size)))))
          (λ t. clear_above i (ltb-false i (64 - n % 64) t))
