-- The number of set bits, at every width: `ones` counts them, and 0 has none. Assumes nothing.
use mathlib.Core.Path.{◌≡◌, refl, sym, ap, ◌∙◌}
use mathlib.Core.Bool.{cond}
use mathlib.Core.List.{List, [], ◌∷◌}
use Prim.Native.Nat.{ℕ, zero, suc, ◌+◌, ◌*◌, ◌/◌, ◌%◌, ◌^◌, ◌<◌}
use native.Mathlib.Nat.{pow-suc}
use native.Mathlib.Omega.{arith}
use native.Mathlib.Numerals.{one-add}
use lib.ListN.{length, length-map}
use lib.Dec.{eqb}
use lib.Count.{ones, ones_step}
use Rattle.words.specs.Lists.{count, keep}
use Rattle.words.specs.Bits.{bit}
use Rattle.words.proofs.BitLaws.{bit-zero, bit-suc, bit_of_zero}
use Rattle.words.proofs.ListLaws.{keep_same, keep-none}
use Rattle.words.proofs.ShiftLaws.{keep_shift}

by_digit : (d i : ℕ) (l : List ℕ) → d < 2 → length (cond (eqb d 1) (i ∷ l) l) ≡ d + length l
by_digit zero i l h = omega arith
by_digit (suc zero) i l h = omega arith
by_digit (suc (suc d)) i l h = absurd (omega arith)

none : 0 ≡ ones 0
unfolding ones
none = refl

pub length-set_bits : (k w : ℕ) → w < 2 ^ k → length (keep (bit w) (count 0 k)) ≡ ones w
unfolding count keep
length-set_bits zero w h = let z : w ≡ 0 = (let u : w < 1 = h in omega arith) in rw z none
length-set_bits (suc k) w h =
    let p : 2 ^ suc k ≡ 2 ^ k * 2 = pow-suc 2 k in
    rw (bit-zero w)
    (by_digit (w % 2) 0 (keep (bit w) (count 1 k)) (omega arith)
    ∙ ap (λ (n : ℕ). w % 2 + n)
    (ap length (keep_shift (bit w) 1 0 k)
    ∙ length-map (keep (λ j. bit w (1 + j)) (count 0 k)) (λ j. 1 + j)
    ∙ ap length (keep_same (λ j. bit w (1 + j)) (bit (w / 2)) (count 0 k) (λ j m. rw one-add (bit-suc w j)))
    ∙ length-set_bits k (w / 2) (omega arith))
    ∙ sym (ones_step w))

pub no_set_bits : (k : ℕ) → keep (bit 0) (count 0 k) ≡ []
no_set_bits k = keep-none (bit 0) (count 0 k) (λ i m. bit_of_zero i)
