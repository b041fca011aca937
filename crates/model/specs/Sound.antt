-- Document 01, "Saved images": when a card is sound. Assumes nothing.
use Rattle.std.specs.Prelude.{Bool, true, false, not, ◌&&◌, List, [], ◌∷◌, ℕ, ◌-◌, ◌*◌, ◌^◌, ltb, eqb, length}
use Rattle.std.specs.Bool.{beq}
use Rattle.std.specs.Int.Bits.{bit_and}
use Rattle.words.specs.Lists.{all, all_at, count}
use Rattle.model.specs.declared.Function.{Function}
use Rattle.model.specs.declared.Mode.TheVariants.{Msix}
use Rattle.model.specs.declared.Shape.{Shape}
use Rattle.model.specs.Shape.{shape_of, msi_vectors}
use Rattle.model.specs.Registers.{stored_zero, entry_zero}
use Rattle.model.specs.World.{World, Endpoint}
use Rattle.model.specs.Vectors.{waits}
use Rattle.model.specs.Release.{owed_now, wire_due_of}
use Rattle.model.specs.Start.{Given, given, start_refusal}

-- the shape and the buffers of a function, as a start is given them
abbrev pub given_of : Endpoint → Given
given_of u =
    let f : Function = u.function in
    given f.config f.sizes f.events f.requester (length u.table) (length u.pending)

abbrev pub shape : Endpoint → Shape
shape u = shape_of u.function.config

-- every byte of a list has the bits of its mask 0
unfoldable pub zero_bits : (mask : ℕ → ℕ) → List ℕ → Bool
zero_bits mask l = all_at (λ i b. eqb (bit_and (mask i) b) 0) 0 l

-- waiting bits at or above N (MSI: 2^Capable, or any where there is no MSI) are 0
unfoldable pub waits_below : Shape → Endpoint → Bool
waits_below s u =
    ltb u.function.waiting (2 ^ msi_vectors s)
    && all (λ v. not (waits Msix u v)) (count s.msix.vectors (8 * length u.pending - s.msix.vectors))

unfoldable pub is_empty : List ℕ → Bool
is_empty [] = true
is_empty (v ∷ l) = false

-- a function with shape s: starting accepts its shape and buffers, bits stored as 0 are 0, and no open vector waits
unfoldable pub sound_endpoint : Shape → Endpoint → Bool
sound_endpoint s u =
    eqb (start_refusal (given_of u)) 0
    && zero_bits (stored_zero s) u.function.config
    && zero_bits entry_zero u.table
    && waits_below s u
    && is_empty (owed_now s u)

-- and the wire is as it should be
unfoldable pub sound : World → Bool
sound w = sound_endpoint (shape w.endpoint) w.endpoint && beq w.wire (wire_due_of (shape w.endpoint) w.endpoint)
