-- Request [6]: old images are judged by the new rules. Bit 10 and the upper half of the data stand in them as they stood; a start and a reset clear both.
-- Assumes nothing.
use mathlib.Core.Path.{◌≡◌, refl, sym, ap, ◌∙◌}
use mathlib.Core.Bool.{Bool, true, false, cond, ◌&&◌, true≢false, and-false}
use mathlib.Core.List.{List, []}
use Prim.Native.Nat.{ℕ, ◌+◌, ◌-◌, ◌≤◌, ◌<◌}
use native.Mathlib.Omega.{arith}
use borrow.Author.Tests.{lt-ltb}
use Rattle.words.specs.Lists.{first_of}
use Rattle.words.specs.Bits.{bit}
use Rattle.words.specs.Bytes.{byte, bit_at, number, word32, Bytes}
use Rattle.words.proofs.BitLaws.{bits_ext_below, bit_of_zero, bit-ones}
use Rattle.words.proofs.BoolLaws.{by_test}
use Rattle.words.proofs.ByteLaws.{number_same}
use Rattle.model.specs.declared.Shape.{Shape}
use Rattle.model.specs.declared.Answer.TheVariants.{Done}
use Rattle.model.specs.Shape.{form_of, shape_in, shape_of, msi_of, msi_at, no_msi, msi_present}
use Rattle.model.specs.Registers.{msi_writable, writable, started_config}
use Rattle.model.specs.World.{World}
use Rattle.model.specs.Vectors.{msi_control_bit}
use Rattle.model.specs.Packets.{data_extended}
use Rattle.model.specs.Start.{Given, start_refusal}
use Rattle.model.specs.Sound.{given_of, sound}
use Rattle.model.specs.Image.{image_of}
use Rattle.model.specs.Claims.{Typed, SameRoom}
use Rattle.model.specs.Calls.{reset, changed, next, accepted, started_world, restore_of}
use Rattle.model.specs.Data16.{sound16}
use Rattle.model.specs.Extended.{extended, whole_data, DataCleared}
use Rattle.model.proofs.Shapes.CapabilityLaws.{if_absent}
use Rattle.model.proofs.Shapes.PlaceLaws.{size_large, in-msi}
use Rattle.model.proofs.Sound.SoundLaws.{Accepts, accepts, is-sound}
use Rattle.model.proofs.Sound.StartLaws.{msi-high, writable-started, started-shape}
use Rattle.model.proofs.Calls.SizeLaws.{started-bytes}
use Rattle.model.proofs.ImageExact.{restored}
use Rattle.model.proofs.SameVerdicts.{sound_as_before}
use Rattle.model.proofs.MessageData.{data_inside, data_writable}

-- ---- old images

-- an image that a card saved before request [6], with bit 9 or without, gives that card back
pub old-image : (w v : World) → Typed w → sound16 w ≡ true → SameRoom v w → restore_of v (image_of w) ≡ accepted w Done [] []
old-image w v t s room = restored v w t (sound_as_before w ∙ s) room

-- ---- what clears bit 10 and the data

-- MSI with bit 9 is present, and so stands at 40h or above
extended-high : (c : List ℕ) → (shape_of c).msi.extended ≡ true → 64 ≤ (shape_of c).msi.at
unfolding msi_present shape_of shape_in msi_of msi_at no_msi
extended-high c e =
    by_test (msi_present (shape_of c)) (msi-high c)
    (λ p. absurd (true≢false (sym e ∙ if_absent c 0x05 (λ l. (msi_of c l).at) (λ l. (msi_of c l).extended ≡ false) (λ a r. refl) p refl)))

module _ (g : Given) (ok : start_refusal g ≡ 0) (with9 : (shape_of g.config).msi.extended ≡ true) (bytes : Bytes g.config) where
  abbrev s : Shape
  s = shape_of g.config

  abbrev started : List ℕ
  started = started_config (shape_of g.config) g.config

  off : (i k : ℕ) → bit (writable (shape_of g.config) i) k ≡ true → bit (byte started i) k ≡ false
  off = let a : Accepts g = accepts g ok in writable-started g.config a.whole a.structures

  -- a byte whose bits are all writable
  zero-byte : (i : ℕ) → writable (shape_of g.config) i ≡ 0xff → byte started i ≡ 0
  zero-byte i e =
      bits_ext_below 8 (byte started i) 0 (started-bytes s g.config bytes i) (omega arith)
      (λ k l. off i k (ap (λ (m : ℕ). bit m k) e ∙ bit-ones 8 k ∙ lt-ltb k 8 l) ∙ sym (bit_of_zero k))

  bit_10 : (t : List ℕ) → msi_control_bit (shape_of g.config) (record { config = started; table = t }) 10 ≡ false
  unfolding msi_control_bit bit_at msi_writable first_of bit
  bit_10 t =
      let i : ℕ = s.msi.at + 2 + 1 in
      let f = in-msi s i 3 (extended-high g.config with9) (omega arith) (omega (arith, size_large s)) in
      off i 2 (ap (λ (m : ℕ). bit m 2) f.0 ∙ ap (λ (e : Bool). bit (cond e 4 0) 2) with9)

  data_byte : (i : ℕ) → s.msi.at + (form_of s).message ≤ i → i < s.msi.at + (form_of s).message + 4 → byte started i ≡ 0
  data_byte i h l =
      let j : ℕ = i - s.msi.at in
      let f = in-msi s i j (extended-high g.config with9) (omega arith) (omega (arith, data_inside s with9)) in
      zero-byte i (f.0 ∙ data_writable s j with9 (omega arith) (omega arith))

  -- an accepted start
  pub start_clears_data : DataCleared (started_world g).endpoint
  unfolding data_extended whole_data word32 number
  start_clears_data = record {
    disabled = rw (started-shape g ok) (ap (λ (b : Bool). s.msi.extended && b) (bit_10 _) ∙ and-false s.msi.extended);
    zero = rw (started-shape g ok) (number_same (byte started) (λ _. 0) (s.msi.at + (form_of s).message) 4 data_byte);
  }

-- a reset of a sound card
pub reset_clears_data : (w : World) (out : List ℕ) → sound w ≡ true → extended w ≡ true → Bytes w.endpoint.function.config → DataCleared (next w (reset out)).endpoint
unfolding next changed
reset_clears_data w out k e bytes = start_clears_data (given_of w.endpoint) (is-sound w k).endpoint.start e bytes
