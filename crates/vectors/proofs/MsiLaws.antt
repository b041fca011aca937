-- The open vectors of MSI as the bits of a word. Assumes nothing.
use mathlib.Core.Path.{◌≡◌, sym, ap, ◌∙◌}
use mathlib.Core.Bool.{Bool, true, false, not, ◌&&◌, and-false, and-true}
use Prim.Native.Nat.{ℕ, ◌+◌, ◌-◌, ◌^◌, ◌≤◌, ◌<◌}
use native.Mathlib.Omega.{arith}
use lib.Bits.{bit_and}
use lib.Dec.{ltb}
use borrow.Author.Tests.{le-ltb, ltb-true}
use Rattle.words.specs.Bits.{bit}
use Rattle.words.specs.Bytes.{byte, bit_at, word32, Bytes}
use Rattle.words.proofs.BoolLaws.{by_test}
use Rattle.words.proofs.BitLaws.{bit_of_zero, bit-and, bit_not, bit-ones}
use Rattle.words.proofs.NumberBits.{bit-number}
use Rattle.model.specs.declared.Mode.TheVariants.{Msi}
use Rattle.model.specs.declared.Shape.{Shape}
use Rattle.model.specs.Shape.{form_of}
use Rattle.model.specs.World.{Registers}
use Rattle.model.specs.Vectors.{granted, masked, enabled, mode_of, same_mode, in_force, command_bit, is_open}
use Rattle.vectors.proofs.GrantedLaws.{granted-small}

module _ (s : Shape) (r : Registers) where
  -- bus mastering is off
  pub no_master : command_bit r 2 ≡ false → (v : ℕ) → bit 0 v ≡ is_open Msi s r v
  unfolding is_open
  no_master e v = rw (e, and-false) (bit_of_zero v)

  -- n are granted, and m is the mask register
  pub by_word : (n m : ℕ) → n ≤ 32 → m < 2 ^ 32 → n ≡ granted s r → ((v : ℕ) → v < 32 → bit m v ≡ masked Msi s r v)
      → mode_of s r ≡ Msi → command_bit r 2 ≡ true → (v : ℕ) → bit (bit_and (2 ^ n - 1) ((2 ^ 32 - 1) - m)) v ≡ is_open Msi s r v
  unfolding is_open in_force same_mode enabled
  by_word n m h j g k e c v =
      bit-and (2 ^ n - 1) ((2 ^ 32 - 1) - m) v ∙ ap (λ (b : Bool). b && bit ((2 ^ 32 - 1) - m) v) (bit-ones n v)
      ∙ by_test (ltb v n)
      (λ t.
      let l : v < 32 = let a : v < n = ltb-true v n t in omega arith in
      rw (e, c, ← g, t) (bit_not 32 m v j l ∙ ap not (k v l) ∙ sym (and-true (not (masked Msi s r v)))))
      (λ t. rw (e, c, ← g, t))

-- ---- the mask register

pub no_masks : (s : Shape) (r : Registers) → s.msi.masks ≡ false → (v : ℕ) → bit 0 v ≡ masked Msi s r v
unfolding masked
no_masks s r e v = rw e (bit_of_zero v)

pub mask_register : (s : Shape) (r : Registers) → Bytes r.config → s.msi.masks ≡ true
    → (v : ℕ) → v < 32 → bit (word32 r.config (s.msi.at + (form_of s).mask)) v ≡ masked Msi s r v
unfolding masked bit_at word32
mask_register s r b e v h =
    bit-number (byte r.config) b (s.msi.at + (form_of s).mask) 4 v h
    ∙ sym (ap (λ (m : Bool). m && bit_at r.config (s.msi.at + (form_of s).mask) v) e)

-- none is open at 32 or above
pub open_below : (s : Shape) (r : Registers) (v : ℕ) → s.msi.capable ≤ 5 → 32 ≤ v → is_open Msi s r v ≡ false
unfolding is_open enabled
open_below s r v h l = rw (le-ltb v (granted s r) (omega (arith, granted-small s r h)), and-false)
