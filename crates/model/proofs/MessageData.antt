-- Request [6]: with bit 9, bit 10 and the 16 bits after the data register are writable; while both bits are set the message carries all 32 bits, else its
-- upper half is 0. Assumes nothing.
use mathlib.Core.Path.{◌≡◌, refl, ap, ◌∙◌}
use mathlib.Core.Bool.{Bool, true, false, not, cond, ◌&&◌}
use Prim.Native.Nat.{ℕ, ◌+◌, ◌-◌, ◌*◌, ◌/◌, ◌%◌, ◌^◌, ◌≤◌, ◌<◌, min}
use native.Mathlib.Nat.{min-le_left, mul-le-mul_right, div-eq_of_lt}
use native.Mathlib.Omega.{arith}
use lib.Dec.{ltb}
use lib.Pow.{pow-add, shr_lt, high, low}
use Rattle.words.specs.Lists.{first_of}
use Rattle.words.specs.Bits.{bit, field}
use Rattle.words.specs.Bytes.{byte, word16, word32, Bytes}
use Rattle.words.proofs.BoolLaws.{cond_same, by_test}
use Rattle.words.proofs.ListLaws.{true-within}
use Rattle.words.proofs.ByteLaws.{number_lt}
use Rattle.model.specs.declared.Shape.{Shape}
use Rattle.model.specs.declared.Mode.TheVariants.{Msi}
use Rattle.model.specs.Shape.{form_of, forms}
use Rattle.model.specs.Registers.{data_bytes, msi_writable}
use Rattle.model.specs.World.{Registers}
use Rattle.model.specs.Vectors.{enable_field, granted}
use Rattle.model.specs.Packets.{data_extended, msi_address, msi_upper, msi_data, message, message_of}
use Rattle.model.specs.Extended.{whole_data, message_data, AllBits}
use Rattle.model.proofs.Registers.ZeroLaws.{past_address}

-- ---- which bits are writable

-- control bit 9 never is, and bit 10 is with bit 9
pub bit_9_fixed : (s : Shape) → (bit (msi_writable s 3) 1 ≡ false) × (bit (msi_writable s 3) 2 ≡ s.msi.extended)
unfolding msi_writable first_of bit
bit_9_fixed s = go s.msi.extended
  where
    go : (e : Bool) → (bit (cond e 0x04 0x00) 1 ≡ false) × (bit (cond e 0x04 0x00) 2 ≡ e)
    go true = (refl, refl)
    go false = (refl, refl)

-- the data register stands behind the address
data_behind : (s : Shape) → 8 ≤ (form_of s).message
unfolding form_of forms
data_behind s = go s.msi.masks s.msi.wide
  where
    go : (m w : Bool) → 8 ≤ (forms m w).message
    go false false = omega arith
    go false true = omega arith
    go true false = omega arith
    go true true = omega arith

-- with bit 9 the structure holds all 32 bits of the data
pub data_inside : (s : Shape) → s.msi.extended ≡ true → (form_of s).message + 4 ≤ (form_of s).size
unfolding form_of forms
data_inside s e = rw e (go s.msi.masks s.msi.wide)
  where
    go : (m w : Bool) → (forms m w).message + 4 ≤ (forms m w).size + cond (true && not m) 2 0
    go false false = omega arith
    go false true = omega arith
    go true false = omega arith
    go true true = omega arith

-- with bit 9 every bit of the data register and of the 16 bits after it is writable
pub data_writable : (s : Shape) (k : ℕ) → s.msi.extended ≡ true → (form_of s).message ≤ k → k < (form_of s).message + 4 → msi_writable s k ≡ 0xff
unfolding data_bytes
data_writable s k e h j =
    let b : 8 ≤ (form_of s).message = data_behind s in
    let n : data_bytes s ≡ 4 = ap (λ (t : Bool). cond t 4 2) e in
    past_address s k (omega arith)
    ∙ rw (true-within (form_of s).message (data_bytes s) k h (omega (arith, n))) (cond_same (s.msi.wide && ltb k 12) 0xff)

-- ---- the vector in the low bits

-- a number of n bits whose low k bits are replaced
replaced_small : (n k d v : ℕ) → k ≤ n → d < 2 ^ n → v < 2 ^ k → d / 2 ^ k * 2 ^ k + v < 2 ^ n
replaced_small n k d v h l m =
    let e : n - k + k ≡ n = omega arith in
    let q : 2 ^ (n - k + k) ≡ 2 ^ n = ap (λ (x : ℕ). 2 ^ x) e in
    let b : d / 2 ^ k < 2 ^ (n - k) = shr_lt (n - k) k (omega (arith, q)) in
    let c : (d / 2 ^ k + 1) * 2 ^ k ≤ 2 ^ (n - k) * 2 ^ k = mul-le-mul_right (2 ^ k) (omega arith) in
    omega (arith, pow-add 2 (n - k) k, q)

-- the message of vector v of MSI
module _ (s : Shape) (r : Registers) (v : ℕ) where
  -- the data that it carries
  pub carried : (requester : ℕ) → message_of Msi s requester r v ≡ message requester (msi_upper s r) (msi_address s r) (message_data s r v)
  unfolding message_of
  carried requester = refl

  abbrev k : ℕ
  k = min (enable_field s r) s.msi.capable

  few : k ≤ 7
  unfolding enable_field field
  few = omega (arith, min-le_left (enable_field s r) s.msi.capable)

  module _ (below : v < granted s r) where
    -- its low bits are the vector, and the others the data's
    pub replaced : (message_data s r v % granted s r ≡ v) × (message_data s r v / granted s r ≡ msi_data s r / granted s r)
    unfolding granted
    replaced = (low (msi_data s r / 2 ^ k) k below, high (msi_data s r / 2 ^ k) k below)

    -- it has no more bits than the data
    pub bounded : (n : ℕ) → 7 ≤ n → msi_data s r < 2 ^ n → message_data s r v < 2 ^ n
    unfolding granted
    bounded n h l = replaced_small n k (msi_data s r) v (omega (arith, few)) l below

    module _ (bytes : Bytes r.config) where
      -- while both bits are set, the message carries all 32 bits, low bits still replaced by the vector
      pub all-bits : data_extended s r ≡ true → AllBits s r v
      unfolding msi_data whole_data word32
      all-bits e =
          let d : msi_data s r ≡ whole_data s r = rw e in
          record {
            low = replaced.0;
            others = replaced.1 ∙ ap (λ (x : ℕ). x / granted s r) d;
            small = bounded 32 (omega arith) (omega (arith, d, number_lt (byte r.config) (s.msi.at + (form_of s).message) 4 bytes));
          }

      -- else the upper half is 0
      pub upper-half-zero : data_extended s r ≡ false → message_data s r v / 65536 ≡ 0
      unfolding msi_data word16
      upper-half-zero e =
          let d : msi_data s r ≡ word16 r.config (s.msi.at + (form_of s).message) = rw e in
          div-eq_of_lt (bounded 16 (omega arith) (omega (arith, d, number_lt (byte r.config) (s.msi.at + (form_of s).message) 2 bytes)))

      -- in either case it is a word
      pub data-word : message_data s r v < 2 ^ 32
      data-word = by_test (data_extended s r) (λ e. (all-bits e).small) (λ e. omega (arith, upper-half-zero e))
