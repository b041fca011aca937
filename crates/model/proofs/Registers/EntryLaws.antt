-- An entry of the MSI-X table by itself: it says who is masked and what is sent. Assumes nothing.
use mathlib.Core.Path.{◌≡◌, ap, ◌∙◌}
use mathlib.Core.List.{List}
use Prim.Native.Nat.{ℕ, ◌+◌, ◌*◌, ◌%◌, ◌≤◌, ◌<◌}
use native.Mathlib.Omega.{arith}
use Rattle.words.specs.Bits.{bit}
use Rattle.words.specs.Bytes.{byte, bit_at, word32}
use Rattle.words.proofs.ByteLaws.{number_shift}
use Rattle.model.specs.declared.Mode.TheVariants.{Msix}
use Rattle.model.specs.declared.Shape.{Shape}
use Rattle.model.specs.Registers.{entry_writable}
use Rattle.model.specs.Vectors.{masked, entry_masked}
use Rattle.model.specs.Packets.{message, entry_message}

-- the same bits of every entry are writable
pub entry-writable : (q i : ℕ) → entry_writable (16 * q + i) ≡ entry_writable i
unfolding entry_writable
entry-writable q i = let e : (16 * q + i) % 16 ≡ i % 16 = omega arith in rw e

-- e holds the 16 bytes of entry v of table t
module _ (e t : List ℕ) (v : ℕ) (same : (i : ℕ) → i < 16 → byte e i ≡ byte t (16 * v + i)) where
  pub entry_masked_lem : (s : Shape) (c : List ℕ) → bit_at e 12 0 ≡ masked Msix s (record { config = c; table = t }) v
  unfolding masked bit_at entry_masked
  entry_masked_lem s c =
      let a : 16 * v + 12 ≡ 16 * v + 12 + 0 = omega arith in
      ap (λ (x : ℕ). bit x 0) (same 12 (omega arith) ∙ ap (byte t) a)

  word_same : (i : ℕ) → i + 4 ≤ 16 → word32 e i ≡ word32 t (16 * v + i)
  unfolding word32
  word_same i h =
      number_shift (byte e) (byte t) i (16 * v + i) 4
      (λ k l. let a : 16 * v + (i + k) ≡ 16 * v + i + k = omega arith in same (i + k) (omega arith) ∙ ap (byte t) a)

  pub entry-message : (requester : ℕ) → message requester (word32 e 4) (word32 e 0) (word32 e 8) ≡ entry_message requester t v
  unfolding entry_message
  entry-message requester =
      let a : 16 * v + 0 ≡ 16 * v = omega arith in
      rw (word_same 4 (omega arith), word_same 0 (omega arith), word_same 8 (omega arith), a)
