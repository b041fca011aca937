-- The entries of the MSI-X table, one behind another. Assumes nothing.
use mathlib.Core.Path.{◌≡◌, refl, sym, ap, ap₂, ◌∙◌}
use mathlib.Core.Bool.{Bool, true, false, cond, ◌&&◌, and-true, and-false}
use mathlib.Core.List.{List}
use Prim.Native.Nat.{ℕ, ◌+◌, ◌*◌, ◌%◌, ◌<◌}
use native.Mathlib.Omega.{arith}
use lib.Bits.{bit_and, bit_or, and_comm}
use lib.Dec.{ltb, eqb}
use lib.ListN.{length, set}
use lib.Seq.{ext_get_or, get_or-set_same, get_or-set_other}
use borrow.Author.Tests.{eqb-true, eqb-false, lt-ltb, le-ltb, ltb-true, ltb-false}
use Rattle.words.specs.Lists.{all, count, first_of}
use Rattle.words.specs.Bytes.{byte, number, word64}
use Rattle.words.proofs.BoolLaws.{by_test}
use Rattle.words.proofs.ByteLaws.{number_shift}
use Rattle.words.proofs.ListLaws.{all-count}
use Rattle.words.proofs.ZeroBits.{or-none, or-masked, clean, clean_word}
use Rattle.model.specs.Registers.{entry_zero, started_table}
use Rattle.model.proofs.Registers.TableLaws.{length-table, byte-table}

-- ---- the bits that read 0, eight bytes at once

entry_again : (i j : ℕ) → i % 16 ≡ j % 16 → entry_zero i ≡ entry_zero j
unfolding entry_zero
entry_again i j e = rw e

zero-byte : (i : ℕ) → entry_zero i < 256
unfolding entry_zero first_of
zero-byte i = go (eqb (i % 16) 0) (ltb (i % 16) 12) (eqb (i % 16) 12)
  where
    go : (a b c : Bool) → cond a 0x03 (cond b 0x00 (cond c 0xfe (cond true 0xff 0))) < 256
    go true b c = omega arith
    go false true c = omega arith
    go false false true = omega arith
    go false false false = omega arith

first_mask : (k : ℕ) → number entry_zero (16 * k) 8 ≡ 0x0000000000000003
unfolding number entry_zero first_of
first_mask k = number_shift entry_zero entry_zero (16 * k) 0 8 (λ j h. entry_again (16 * k + j) (0 + j) (omega arith))

second_mask : (k : ℕ) → number entry_zero (16 * k + 8) 8 ≡ 0xfffffffe00000000
unfolding number entry_zero first_of
second_mask k = number_shift entry_zero entry_zero (16 * k + 8) 8 8 (λ j h. entry_again (16 * k + 8 + j) (8 + j) (omega arith))

in_order : (a b c d : Bool) → ((a && b) && (c && d)) ≡ (((a && c) && b) && d)
in_order true true true d = refl
in_order true true false d = refl
in_order true false true d = refl
in_order true false false d = refl
in_order false b c d = refl

module _ (t : List ℕ) (b : (i : ℕ) → byte t i < 256) where
  word_clean : (i m w : ℕ) → number entry_zero i 8 ≡ m → w ≡ word64 t i → eqb (bit_and w m) 0 ≡ all (clean entry_zero t) (count i 8)
  unfolding word64
  word_clean i m w e f =
      ap (λ (x : ℕ). eqb x 0) (and_comm w m ∙ ap₂ bit_and (sym e) f) ∙ clean_word entry_zero t zero-byte b i 8

  -- the first k entries, whose bits together are low and high, and one more
  pub entry-clean : (k low high v w : ℕ) → v ≡ word64 t (16 * k) → w ≡ word64 t (16 * k + 8)
      → eqb (bit_or (bit_and low 0x0000000000000003) (bit_and high 0xfffffffe00000000)) 0 ≡ all (clean entry_zero t) (count 0 (16 * k))
      → eqb (bit_or (bit_and (bit_or low v) 0x0000000000000003) (bit_and (bit_or high w) 0xfffffffe00000000)) 0 ≡ all (clean entry_zero t) (count 0 (16 * (k + 1)))
  entry-clean k low high v w e f g =
      let test : ℕ → Bool = clean entry_zero t in
      let m : ℕ = 0x0000000000000003 in
      let n : ℕ = 0xfffffffe00000000 in
      let s : 16 * (k + 1) ≡ 16 * k + 8 + 8 = omega arith in
      or-none (bit_and (bit_or low v) m) (bit_and (bit_or high w) n)
      ∙ ap₂ ◌&&◌ (or-masked low v m) (or-masked high w n)
      ∙ in_order (eqb (bit_and low m) 0) (eqb (bit_and v m) 0) (eqb (bit_and high n) 0) (eqb (bit_and w n) 0)
      ∙ ap₂ ◌&&◌
      (ap₂ ◌&&◌ (sym (or-none (bit_and low m) (bit_and high n)) ∙ g) (word_clean (16 * k) m v (first_mask k) e) ∙ sym (all-count test (16 * k) 8))
      (word_clean (16 * k + 8) n w (second_mask k) f)
      ∙ sym (ap (λ (i : ℕ). all test (count 0 i)) s ∙ all-count test (16 * k + 8) 8)

-- ---- the table of a start

-- byte i where the first k entries have their mask bits set, and all else is 0
unfoldable pub started : ℕ → ℕ → ℕ
started k i = cond (eqb (i % 16) 12 && ltb i (16 * k)) 1 0

-- before the first
pub started_none : (i : ℕ) → 0 ≡ started 0 i
unfolding started
started_none i = rw (le-ltb i 0 (omega arith), and-false)

-- a place but the next entry's mask byte
mask_set : (i k : ℕ) → (i ≡ 16 * k + 12 → ⊥) → (eqb (i % 16) 12 && ltb i (16 * k)) ≡ (eqb (i % 16) 12 && ltb i (16 * (k + 1)))
mask_set i k ne = by_test (eqb (i % 16) 12) mask (λ e. rw e)
  where
    mask : eqb (i % 16) 12 ≡ true → (eqb (i % 16) 12 && ltb i (16 * k)) ≡ (eqb (i % 16) 12 && ltb i (16 * (k + 1)))
    mask e =
        let p : i % 16 ≡ 12 = eqb-true (i % 16) 12 e in
        rw e (by_test (ltb i (16 * k))
        (λ d. d ∙ sym (lt-ltb i (16 * (k + 1)) (omega (arith, ltb-true i (16 * k) d))))
        (λ d. d ∙ sym (le-ltb i (16 * (k + 1)) (omega (arith, ltb-false i (16 * k) d, ne)))))

-- one entry more
pub started-more : (t : List ℕ) (k : ℕ) → 16 * k + 12 < length t → ((i : ℕ) → i < length t → byte t i ≡ started k i)
    → (i : ℕ) → i < length t → byte (set t (16 * k + 12) 1) i ≡ started (k + 1) i
unfolding started
started-more t k h f i l = by_test (eqb i (16 * k + 12)) here there
  where
    here : eqb i (16 * k + 12) ≡ true → byte (set t (16 * k + 12) 1) i ≡ cond (eqb (i % 16) 12 && ltb i (16 * (k + 1))) 1 0
    here e =
        let p : i ≡ 16 * k + 12 = eqb-true i (16 * k + 12) e in
        let q : (16 * k + 12) % 16 ≡ 12 = omega arith in
        rw (p, get_or-set_same t (16 * k + 12) 1 0 h, q, lt-ltb (16 * k + 12) (16 * (k + 1)) (omega arith))

    there : eqb i (16 * k + 12) ≡ false → byte (set t (16 * k + 12) 1) i ≡ cond (eqb (i % 16) 12 && ltb i (16 * (k + 1))) 1 0
    there e = get_or-set_other t (16 * k + 12) i 1 0 (eqb-false i (16 * k + 12) e) ∙ f i l ∙ ap (λ (b : Bool). cond b 1 0) (mask_set i k (eqb-false i (16 * k + 12) e))

-- after the last
pub started-all : (t : List ℕ) (n : ℕ) → length t ≡ 16 * n → ((i : ℕ) → i < length t → byte t i ≡ started n i) → t ≡ started_table n
unfolding started
started-all t n e f =
    ext_get_or 0 t (started_table n) (e ∙ sym (length-table n))
    (λ i h. f i h ∙ rw (lt-ltb i (16 * n) (omega arith), byte-table n i (omega arith), and-true))
