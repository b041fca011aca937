-- The lowest set bit: trailing zeros give it, it is one, and it is the first of the set bits `keep (bit w) (count 0 k)` of a number w of at
-- most k bits. Assumes nothing.
use mathlib.Core.Path.{◌≡◌, refl, sym, ap, ◌∙◌}
use mathlib.Core.Bool.{Bool, true, false, false≢true, and-true}
use mathlib.Core.List.{List, [], ◌∷◌}
use Prim.Native.Nat.{ℕ, zero, suc, ◌+◌, ◌-◌, ◌*◌, ◌/◌, ◌%◌, ◌^◌, ◌≤◌, ◌<◌}
use native.Mathlib.Nat.{pow-suc, zero-add, one-mul}
use native.Mathlib.Omega.{arith}
use lib.Dec.{ltb}
use lib.Pow.{pow_pos, shl_exact}
use lib.Bits.{bit_and, and_le_r}
use lib.Count.{count_trailing_zeros, under}
use borrow.Author.Tests.{eq-eqb, ne_eqb, eqb-true, ltb-true, ltb-false}
use Rattle.words.specs.Lists.{count, keep}
use Rattle.words.specs.Bits.{bit, clear, clear_bit}
use Rattle.words.specs.Lowest.{Lowest}
use Rattle.words.proofs.BoolLaws.{by_test}
use Rattle.words.proofs.BitLaws.{bit-zero, bit-suc, bit_power, bit-cleared, bit_above, and-part}
use Rattle.words.proofs.ListLaws.{keep_same, keep-none, keep_append, count-append, member-count}

-- ---- trailing zeros

odd : (w : ℕ) → w % 2 ≡ 1 → Lowest w 0
odd w e = record { set = bit-zero w ∙ eq-eqb (w % 2) 1 e; first = λ i h. absurd (omega arith) }

even_first : (w t : ℕ) → w % 2 ≡ 0 → Lowest (w / 2) t → (i : ℕ) → i < suc t → bit w i ≡ false
even_first w t e l zero h = bit-zero w ∙ ne_eqb (w % 2) 1 (omega arith)
even_first w t e l (suc i) h = bit-suc w i ∙ l.first i (omega arith)

even : (w t : ℕ) → w % 2 ≡ 0 → Lowest (w / 2) t → Lowest w (suc t)
even w t e l = record { set = bit-suc w t ∙ l.set; first = even_first w t e l }

by_digit : (w t d : ℕ) → w % 2 ≡ d → w % 2 < 2 → (w % 2 ≡ 0 → Lowest (w / 2) t) → Lowest w (under (w % 2) t)
by_digit w t zero e b l = rw e (even w t e (l e))
by_digit w t (suc d) e b l = rw e (odd w (omega arith))

pub lowest_trailing : (k w : ℕ) → 0 < w → w < 2 ^ k → Lowest w (count_trailing_zeros k w)
unfolding count_trailing_zeros
lowest_trailing zero w h u = absurd (let z : w < 1 = u in omega arith)
lowest_trailing (suc k) w h u =
    let p : 2 ^ suc k ≡ 2 ^ k * 2 = pow-suc 2 k in
    by_digit w (count_trailing_zeros k (w / 2)) (w % 2) refl (omega arith)
    (λ e. lowest_trailing k (w / 2) (omega arith) (omega arith))

-- ---- where it is

pub lowest_within : (k w v : ℕ) → w < 2 ^ k → Lowest w v → v < k
lowest_within k w v u l =
    by_test (ltb v k) (λ e. ltb-true v k e)
    (λ e. absurd (false≢true (sym (bit_above k w v u (ltb-false v k e)) ∙ l.set)))

-- ---- a set bit is cleared by a difference

power_in : (w v : ℕ) → bit w v ≡ true → bit_and (2 ^ v) w ≡ 2 ^ v
power_in w v e = and-part (2 ^ v) w (λ k h. ap (bit w) (eqb-true k v (sym (bit_power v k) ∙ h)) ∙ e)

pub power_le : (w v : ℕ) → bit w v ≡ true → 2 ^ v ≤ w
power_le w v e = omega (arith, power_in w v e, and_le_r (2 ^ v) w)

pub clear-set : (w v : ℕ) → bit w v ≡ true → clear_bit w v ≡ w - 2 ^ v
unfolding clear_bit clear
clear-set w v e = ap (λ (n : ℕ). w - n) (power_in w v e)

pub clear_less : (w v : ℕ) → bit w v ≡ true → clear_bit w v < w
clear_less w v e = rw (clear-set w v e) (omega (arith, power_le w v e, pow_pos v))

-- `1 << v` in k bits
pub one_shl : (k v : ℕ) → v < k → (1 * 2 ^ v) % 2 ^ k ≡ 2 ^ v
one_shl k v h = shl_exact 1 v k (omega arith) (omega arith) ∙ one-mul (2 ^ v)

-- ---- the set bits in rising order

module _ (k w v : ℕ) (u : w < 2 ^ k) (l : Lowest w v) where
  rest : List ℕ
  rest = count (suc v) (k - suc v)

  -- what a test that fails below v keeps
  from : (f : ℕ → Bool) → ((i : ℕ) → i < v → f i ≡ false) → keep f (count 0 k) ≡ keep f (v ∷ rest)
  unfolding count rest
  from f h =
      let b : v < k = lowest_within k w v u l in
      let e : k ≡ v + suc (k - suc v) = omega arith in
      let n : keep f (count 0 v) ≡ [] = keep-none f (count 0 v) (λ i m. h i (rw zero-add at (member-count 0 v i m).1)) in
      ap (λ (j : ℕ). keep f (count 0 j)) e ∙ ap (keep f) (count-append 0 v (suc (k - suc v))) ∙ keep_append f (count 0 v) (count (0 + v) (suc (k - suc v)))
      ∙ rw (n, zero-add)

  first : keep (bit w) (v ∷ rest) ≡ v ∷ keep (bit w) rest
  unfolding keep
  first = rw l.set

  cleared : keep (bit (clear_bit w v)) (v ∷ rest) ≡ keep (bit (clear_bit w v)) rest
  unfolding keep
  cleared = let e : bit (clear_bit w v) v ≡ false = bit-cleared w v v ∙ rw (eq-eqb v v refl, l.set) in rw e

  above : keep (bit (clear_bit w v)) rest ≡ keep (bit w) rest
  unfolding rest
  above =
      keep_same (bit (clear_bit w v)) (bit w) rest
      (λ i m.
      let h : suc v ≤ i = (member-count (suc v) (k - suc v) i m).0 in
      bit-cleared w v i ∙ rw (ne_eqb i v (omega arith)) (and-true (bit w i)))

  -- the lowest, and those that are left when it is cleared
  pub lowest_rest : keep (bit w) (count 0 k) ≡ v ∷ keep (bit (clear_bit w v)) (count 0 k)
  lowest_rest =
      from (bit w) l.first ∙ first
      ∙ ap (λ (r : List ℕ). v ∷ r) (sym (from (bit (clear_bit w v)) (λ i h. bit-cleared w v i ∙ rw (l.first i h)) ∙ cleared ∙ above))
