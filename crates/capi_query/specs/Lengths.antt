-- What `musgarento_config_lengths` and `musgarento_image_lengths` tell. Assumes nothing.
use Rattle.std.specs.Prelude.{cond, List, ℕ, eqb, length, Result, Ok, Err}
use Rattle.model.specs.declared.Shape.{Shape}
use Rattle.model.specs.declared.refusal.Refusal.{Refusal}
use Rattle.model.specs.Refusals.{number_of}
use Rattle.model.specs.Shape.{shape_of, table_bytes, pending_bytes}
use Rattle.model.specs.World.{Endpoint}
use Rattle.model.specs.Sound.{shape}
use Rattle.model.specs.Image.{world_in, restore_refusal}
use Rattle.capi_query.specs.declared.lengths.Lengths as Code

-- the number returned, and the numbers set
pub record Lengths : Type 0 where
  pub refusal : ℕ
  pub vectors : ℕ
  pub table : ℕ
  pub pending : ℕ

abbrev pub lengths : (refusal vectors table pending : ℕ) → Lengths
lengths refusal vectors table pending = record { refusal = refusal; vectors = vectors; table = table; pending = pending }

abbrev pub refused : ℕ → Lengths
refused refusal = lengths refusal 0 0 0

-- N, 16N, and 8 x (N/64 rounded up)
unfoldable pub lengths_of : Shape → Lengths
lengths_of s = lengths 0 s.msix.vectors (table_bytes s) (pending_bytes s)

-- of a configuration, which has 256 bytes ("Starting a card")
unfoldable pub config_lengths : List ℕ → Lengths
config_lengths config = cond (eqb (length config) 256) (lengths_of (shape_of config)) (refused 60)

-- the refusal of a restore over buffers as long as those that the image holds ("Refusals of a running card"): 20, 21, 22, or 0
unfoldable pub image_refusal : List ℕ → ℕ
image_refusal image = let u : Endpoint = (world_in image).endpoint in restore_refusal image (length u.table) (length u.pending)

-- of the configuration in an image ("Saved images")
unfoldable pub image_lengths : List ℕ → Lengths
image_lengths image = cond (eqb (image_refusal image) 0) (lengths_of (shape (world_in image).endpoint)) (refused (image_refusal image))

-- ---- the code's answers

abbrev pub told_of : Shape → Code.Lengths
told_of s = record { vectors = s.msix.vectors; table = table_bytes s; pending = pending_bytes s }

-- an answer as it crosses the interface
abbrev pub told : Result Code.Lengths Refusal → Lengths
told (Ok l) = lengths 0 l.vectors l.table l.pending
told (Err why) = refused (number_of why)
