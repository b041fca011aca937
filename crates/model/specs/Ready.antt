-- A function after a write, line call or event, before its open vectors are sent. Assumes nothing.
use Rattle.std.specs.Prelude.{◌≡◌, true, false, ℕ, ◌^◌, ◌≤◌, ◌<◌}
use Rattle.model.specs.declared.Mode.TheVariants.{Msix}
use Rattle.model.specs.declared.Shape.{Shape}
use Rattle.model.specs.Shape.{msi_vectors}
use Rattle.model.specs.Registers.{stored_zero, entry_zero}
use Rattle.model.specs.World.{Endpoint}
use Rattle.model.specs.Vectors.{waits}
use Rattle.model.specs.Start.{start_refusal}
use Rattle.model.specs.Sound.{given_of, shape, zero_bits}

-- no waiting bit at or above N (MSI: 2^Capable)
pub record Below (s : Shape) (u : Endpoint) : Type 0 where
  pub msi : u.function.waiting < 2 ^ msi_vectors s
  pub msix : (v : ℕ) → s.msix.vectors ≤ v → waits Msix u v ≡ false

-- all that is asked of a sound function with shape s, but that open vectors may wait
pub record Ready (s : Shape) (u : Endpoint) : Type 0 where
  pub shaped : shape u ≡ s
  pub start : start_refusal (given_of u) ≡ 0
  pub config : zero_bits (stored_zero s) u.function.config ≡ true
  pub table : zero_bits entry_zero u.table ≡ true
  pub below : Below s u
