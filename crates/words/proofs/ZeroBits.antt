-- Bits that are 0: two numbers have the bits of a mask 0 exactly if their bits together have, and a number of n bytes exactly if each of its
-- bytes has. Assumes nothing.
use mathlib.Core.Path.{◌≡◌, refl, sym, ap, ap₂, ◌∙◌}
use mathlib.Core.Bool.{Bool, ◌&&◌, ◌||◌, and-or_distrib_right}
use mathlib.Core.List.{List}
use Prim.Native.Nat.{ℕ, zero, suc, ◌+◌, ◌*◌, ◌≤◌, ◌<◌}
use native.Mathlib.Omega.{arith}
use lib.Bits.{bit_and, bit_or, or_add_and, and_le_l, and_le_r}
use lib.Dec.{eqb}
use Rattle.words.specs.Lists.{all, count}
use Rattle.words.specs.Bits.{bit}
use Rattle.words.specs.Bytes.{byte, number}
use Rattle.words.proofs.BoolLaws.{both_zero}
use Rattle.words.proofs.BitLaws.{bits_ext, bit-and, bit-or}
use Rattle.words.proofs.NumberBits.{number-and}

pub or-none : (x y : ℕ) → eqb (bit_or x y) 0 ≡ (eqb x 0 && eqb y 0)
or-none x y =
    let s : bit_or x y + bit_and x y ≡ x + y = or_add_and x y in
    let l : bit_and x y ≤ x = and_le_l x y in
    let r : bit_and x y ≤ y = and_le_r x y in
    both_zero x y (bit_or x y) (λ e. (omega arith, omega arith)) (λ e d. omega arith)

pub or-masked : (x y m : ℕ) → eqb (bit_and (bit_or x y) m) 0 ≡ (eqb (bit_and x m) 0 && eqb (bit_and y m) 0)
or-masked x y m =
    ap (λ (z : ℕ). eqb z 0) (bits_ext (bit_and (bit_or x y) m) (bit_or (bit_and x m) (bit_and y m))
    (λ k. bit-and (bit_or x y) m k ∙ ap (λ (b : Bool). b && bit m k) (bit-or x y k) ∙ and-or_distrib_right (bit x k) (bit y k) (bit m k)
    ∙ sym (bit-or (bit_and x m) (bit_and y m) k ∙ ap₂ ◌||◌ (bit-and x m k) (bit-and y m k))))
    ∙ or-none (bit_and x m) (bit_and y m)

-- ---- numbers of n bytes

pub number-none : (f : ℕ → ℕ) (i n : ℕ) → eqb (number f i n) 0 ≡ all (λ k. eqb (f k) 0) (count i n)
unfolding number all count
number-none f i zero = refl
number-none f i (suc n) =
    both_zero (f i) (number f (suc i) n) (f i + 256 * number f (suc i) n) (λ e. (omega arith, omega arith)) (λ e d. omega arith)
    ∙ ap (λ (b : Bool). eqb (f i) 0 && b) (number-none f (suc i) n)

-- byte k has the bits of its mask 0
abbrev pub clean : (mask : ℕ → ℕ) → List ℕ → ℕ → Bool
clean mask l k = eqb (bit_and (mask k) (byte l k)) 0

-- a word of n bytes against the word of their masks
module _ (mask : ℕ → ℕ) (l : List ℕ) (hm : (k : ℕ) → mask k < 256) (hl : (k : ℕ) → byte l k < 256) where
  pub clean_word : (i n : ℕ) → eqb (bit_and (number mask i n) (number (byte l) i n)) 0 ≡ all (clean mask l) (count i n)
  clean_word i n =
      ap (λ (x : ℕ). eqb x 0) (number-and mask (byte l) hm hl i n) ∙ number-none (λ k. bit_and (mask k) (byte l k)) i n
