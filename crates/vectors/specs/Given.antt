-- What the functions of this crate are given: registers as two lists of bytes, and what the configuration says. Assumes nothing.
use Rattle.std.specs.Prelude.{◌≡◌, List, ℕ}
use Rattle.model.specs.declared.Mode.{Mode}
use Rattle.model.specs.declared.Profile.{Profile}
use Rattle.model.specs.declared.Shape.{Shape}
use Rattle.model.specs.Shape.{form_of}
use Rattle.model.specs.Fit.{FitShape}
use Rattle.model.specs.World.{Registers}
use Rattle.model.specs.Vectors.{mode_of}

-- the registers of a configuration and a table
abbrev pub regs : List ℕ → List ℕ → Registers
regs config table = record { config = config; table = table }

-- the mechanism m is in force, whatever the table holds
abbrev pub InForce : Mode → Shape → List ℕ → Type 0
InForce m s config = (t : List ℕ) → mode_of s (regs config t) ≡ m

-- k is what a configuration says, and its shape fits
pub record Profiled (config : List ℕ) (k : Profile) : Type 0 where
  pub fits : FitShape k.shape
  pub form : k.form ≡ form_of k.shape
  pub mode : InForce k.mode k.shape config
