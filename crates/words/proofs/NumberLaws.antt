-- Numbers of n bytes: one byte, one byte more, and two runs of bytes as one. Assumes nothing.
use mathlib.Core.Path.{◌≡◌, sym, ap, ◌∙◌}
use Prim.Native.Nat.{ℕ, zero, suc, ◌+◌, ◌*◌, ◌^◌}
use native.Mathlib.Nat.{zero-add, add-zero, add-suc, suc-add, mul_assoc, pow-suc}
use native.Mathlib.Omega.{arith}
use Rattle.words.specs.Bytes.{number}

module _ (f : ℕ → ℕ) where
  pub number-one : (i : ℕ) → number f i 1 ≡ f i
  unfolding number
  number-one i = add-zero (f i)

  -- the byte at i below the n from i + 1 on
  pub number_more : (i n : ℕ) → number f i (suc n) ≡ number f (suc i) n * 256 + f i
  unfolding number
  number_more i n = omega arith

  -- m bytes and the n behind them
  pub number-add : (i m n : ℕ) → number f i (m + n) ≡ number f i m + number f (i + m) n * 256 ^ m
  unfolding number
  number-add i zero n = rw (zero-add, add-zero) (omega arith)
  number-add i (suc m) n =
      let x = number f (suc i + m) n in
      let p : x * 256 ^ suc m ≡ x * 256 ^ m * 256 = ap (λ (k : ℕ). x * k) (pow-suc 256 m) ∙ sym (mul_assoc x (256 ^ m) 256) in
      let e : suc i + m ≡ i + suc m = suc-add i m ∙ sym (add-suc i m) in
      rw (suc-add, ← e) (omega (arith, number-add (suc i) m n, p))

  -- two halves
  pub number-halves : (i n : ℕ) → number f i n + number f (i + n) n * 256 ^ n ≡ number f i (n + n)
  number-halves i n = sym (number-add i n n)
