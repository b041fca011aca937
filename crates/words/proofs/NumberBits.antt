-- The bits of a number of n bytes are those of its bytes. Assumes nothing.
use mathlib.Core.Path.{◌≡◌, refl, sym, ap, ap₂, ◌∙◌}
use Prim.Native.Nat.{ℕ, zero, suc, ◌+◌, ◌-◌, ◌*◌, ◌/◌, ◌%◌, ◌^◌, ◌≤◌, ◌<◌}
use native.Mathlib.Nat.{pow-suc}
use native.Mathlib.Omega.{arith}
use lib.Dec.{eqb, ltb}
use lib.Pow.{shr-shr, high}
use lib.Bits.{bit_and, and_block, block_half, block_odd}
use borrow.Author.Tests.{ltb-true, ltb-false}
use Rattle.words.specs.Bits.{bit, clear}
use Rattle.words.specs.Bytes.{byte, bit_at, number, bytes_of}
use Rattle.words.proofs.BoolLaws.{by_test}
use Rattle.words.proofs.BitLaws.{bit-zero, bit-suc, clear-ones}
use Rattle.words.proofs.ByteLaws.{bytes_of_lt, number_lt, number-bytes_of}
use Rattle.words.proofs.NumberLaws.{number_more}

-- ---- s low bits r, and the number a above them

pub bit-low : (s a r k : ℕ) → r < 2 ^ s → k < s → bit (a * 2 ^ s + r) k ≡ bit r k
bit-low zero a r k h l = absurd (omega arith)
bit-low (suc s) a r zero h l = bit-zero (a * 2 ^ suc s + r) ∙ ap (λ (d : ℕ). eqb d 1) (block_odd a s r) ∙ sym (bit-zero r)
bit-low (suc s) a r (suc k) h l =
    let p : 2 ^ suc s ≡ 2 ^ s * 2 = pow-suc 2 s in
    bit-suc (a * 2 ^ suc s + r) k ∙ ap (λ (x : ℕ). bit x k) (block_half a s r) ∙ bit-low s a (r / 2) k (omega arith) (omega arith)
    ∙ sym (bit-suc r k)

pub bit_high : (s a r k : ℕ) → r < 2 ^ s → bit (a * 2 ^ s + r) (s + k) ≡ bit a k
unfolding bit
bit_high s a r k h =
    ap (λ (x : ℕ). eqb (x % 2) 1) (sym (shr-shr (a * 2 ^ s + r) s k) ∙ ap (λ (x : ℕ). x / 2 ^ k) (high a s h))

-- ---- a number of n bytes

module _ (f : ℕ → ℕ) (b : (k : ℕ) → f k < 256) where
  pub bit-number : (i n k : ℕ) → k < 8 * n → bit (number f i n) k ≡ bit (f (i + k / 8)) (k % 8)
  bit-number i zero k h = absurd (omega arith)
  bit-number i (suc n) k h =
      ap (λ (x : ℕ). bit x k) (number_more f i n)
      ∙ by_test (ltb k 8)
      (λ t.
      let l : k < 8 = ltb-true k 8 t in
      let p : i ≡ i + k / 8 = omega arith in
      let q : k ≡ k % 8 = omega arith in
      bit-low 8 (number f (suc i) n) (f i) k (b i) l ∙ ap₂ (λ (j m : ℕ). bit (f j) m) p q)
      (λ t.
      let l : 8 ≤ k = ltb-false k 8 t in
      let e : k ≡ 8 + (k - 8) = omega arith in
      let p : suc i + (k - 8) / 8 ≡ i + k / 8 = omega arith in
      let q : (k - 8) % 8 ≡ k % 8 = omega arith in
      ap (bit (number f (suc i) n * 256 + f i)) e ∙ bit_high 8 (number f (suc i) n) (f i) (k - 8) (b i)
      ∙ bit-number (suc i) n (k - 8) (omega arith)
      ∙ ap₂ (λ (j m : ℕ). bit (f j) m) p q)

-- bit k of the n bytes of a number
pub bit-bytes_of : (n x k : ℕ) → x < 256 ^ n → k < 8 * n → bit_at (bytes_of n x) 0 k ≡ bit x k
unfolding bit_at
bit-bytes_of n x k h l =
    sym (bit-number (byte (bytes_of n x)) (bytes_of_lt n x) 0 n k l) ∙ ap (λ (y : ℕ). bit y k) (number-bytes_of n x h)

-- ---- and, and the complement, byte by byte

module _ (f g : ℕ → ℕ) (hf : (k : ℕ) → f k < 256) (hg : (k : ℕ) → g k < 256) where
  pub number-and : (i n : ℕ) → bit_and (number f i n) (number g i n) ≡ number (λ k. bit_and (f k) (g k)) i n
  unfolding number
  number-and i zero = refl
  number-and i (suc n) =
      ap₂ bit_and (number_more f i n) (number_more g i n)
      ∙ and_block 8 (number f (suc i) n) (number g (suc i) n) (f i) (g i) (hf i) (hg i)
      ∙ ap (λ (x : ℕ). x * 256 + bit_and (f i) (g i)) (number-and (suc i) n)
      ∙ sym (number_more (λ k. bit_and (f k) (g k)) i n)

number-not : (f : ℕ → ℕ) → ((k : ℕ) → f k < 256) → (i n : ℕ) → number f i n + number (λ k. clear (f k) 0xff) i n ≡ 256 ^ n - 1
unfolding number
number-not f h i zero = omega arith
number-not f h i (suc n) =
    let p : 256 ^ suc n ≡ 256 ^ n * 256 = pow-suc 256 n in
    omega (arith, number-not f h (suc i) n, number_lt f (suc i) n h, clear-ones 8 (f i) (h i), h i)

pub not-number : (n x : ℕ) → x < 256 ^ n → number (λ k. clear (byte (bytes_of n x) k) 0xff) 0 n ≡ 256 ^ n - 1 - x
not-number n x h = omega (arith, number-not (byte (bytes_of n x)) (bytes_of_lt n x) 0 n, number-bytes_of n x h)
