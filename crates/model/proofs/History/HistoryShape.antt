-- The configuration by a past has the fixed bits of the one that a start was given: the same shape, and the same start again. Assumes nothing.
use mathlib.Core.Path.{◌≡◌, refl, ap, ◌∙◌}
use mathlib.Core.Bool.{false}
use mathlib.Core.List.{List}
use Prim.Native.Nat.{ℕ}
use lib.ListN.{length}
use Rattle.words.specs.Bits.{clear}
use Rattle.words.specs.Bytes.{byte}
use Rattle.words.proofs.BitLaws.{clear-merge}
use Rattle.model.specs.declared.Shape.{Shape}
use Rattle.model.specs.Capabilities.{capabilities, listed, broken}
use Rattle.model.specs.Shape.{shape_of}
use Rattle.model.specs.Registers.{writable, fixed_byte, started_config}
use Rattle.model.specs.Start.{Given, bad_structures}
use Rattle.model.specs.History.{Past, config_byte, writable_at, latest, start_registers, bytes_by, registers_by}
use Rattle.model.proofs.Shapes.ShapeLaws.{shape_same}
use Rattle.model.proofs.Registers.FixedLaws.{everywhere, fixed_clear, fixed_started, length-started, started-same}
use Rattle.model.proofs.History.HistoryBytes.{length_by, byte_by}

module _ (g : Given) (past : Past) where
  abbrev s : Shape
  s = shape_of g.config

  abbrev base : List ℕ
  base = started_config s g.config

  length-registers : length (registers_by g past).config ≡ length g.config
  unfolding registers_by start_registers
  length-registers = length_by s past config_byte base ∙ length-started s g.config

  fixed_registers : (k : ℕ) → fixed_byte (shape_of g.config) k (byte (registers_by g past).config k) ≡ fixed_byte (shape_of g.config) k (byte g.config k)
  unfolding registers_by start_registers writable_at
  fixed_registers k =
      everywhere (λ x y. fixed_byte s k x ≡ fixed_byte s k y) (bytes_by s past config_byte base) base (length_by s past config_byte base) (λ _. refl) k
      (λ h.
      fixed_clear s k (byte (bytes_by s past config_byte base) k) (byte base k)
      (ap (clear (writable s k)) (byte_by s past config_byte base k h) ∙ clear-merge (writable s k) (byte base k) (latest s past (config_byte k) (byte base k))))
      ∙ fixed_started s g.config k

  -- checks 11 and 13 passed
  pub shape_by : broken (capabilities g.config) ≡ false → bad_structures (listed (capabilities g.config)) (shape_of g.config) ≡ false
      → shape_of (registers_by g past).config ≡ shape_of g.config
  shape_by whole places = shape_same g.config (registers_by g past).config whole places fixed_registers

  pub restart_by : started_config (shape_of g.config) (registers_by g past).config ≡ started_config (shape_of g.config) g.config
  restart_by = started-same (shape_of g.config) g.config (registers_by g past).config length-registers fixed_registers
