-- What the theorems of request [6] speak of. Assumes nothing.
use Rattle.std.specs.Prelude.{◌≡◌, Bool, true, false, not, ◌&&◌, List, [], ◌∷◌, ℕ, ◌+◌, ◌*◌, ◌/◌, ◌%◌, ◌^◌, ◌<◌}
use Rattle.words.specs.Bytes.{word32}
use Rattle.model.specs.declared.Shape.{Shape}
use Rattle.model.specs.Shape.{form_of, shape_of}
use Rattle.model.specs.World.{World, Endpoint, Registers, registers}
use Rattle.model.specs.Vectors.{granted}
use Rattle.model.specs.Packets.{data_extended, msi_data}
use Rattle.model.specs.Sound.{shape}
use Rattle.model.specs.Image.{function_in}
use Rattle.model.specs.Calls.{Operation, call, start, restore}

-- the card has MSI control bit 9, Extended Message Data Capable
abbrev pub extended : World → Bool
extended w = (shape w.endpoint).msi.extended

-- a call that brings a card with bit 9: a start with its configuration, or a restore of its image
abbrev pub brings_extended : Operation → Bool
brings_extended (call c) = false
brings_extended (start config sizes events requester) = (shape_of config).msi.extended
brings_extended (restore image) = (shape_of (function_in image).config).msi.extended

-- no call of a list brings a card with bit 9
unfoldable pub none_extended : List Operation → Bool
none_extended [] = true
none_extended (o ∷ os) = not (brings_extended o) && none_extended os

-- the 32 bits of the data: the data register, and the 16 bits after it
unfoldable pub whole_data : Shape → Registers → ℕ
whole_data s r = word32 r.config (s.msi.at + (form_of s).message)

-- the data that the message of vector v carries
abbrev pub message_data : Shape → Registers → ℕ → ℕ
message_data s r v = msi_data s r / granted s r * granted s r + v

-- the message carries all 32 bits of the data, low bits still replaced by the vector v
pub record AllBits (s : Shape) (r : Registers) (v : ℕ) : Type 0 where
  pub low : message_data s r v % granted s r ≡ v
  pub others : message_data s r v / granted s r ≡ whole_data s r / granted s r
  pub small : message_data s r v < 2 ^ 32

-- the 32 bits of the data are not enabled, and are 0
pub record DataCleared (u : Endpoint) : Type 0 where
  pub disabled : data_extended (shape u) (registers u) ≡ false
  pub zero : whole_data (shape u) (registers u) ≡ 0
