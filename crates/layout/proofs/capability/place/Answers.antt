-- `place` meets its contract. Assumes nothing.
use mathlib.Core.Path.{refl}
use native.Mathlib.Omega.{arith}
use Rattle.model.specs.Capabilities.{pointer}
use Rattle.layout.proofs.capability.place.Goals as goal

pub returns : goal.returns
unfolding pointer
returns c = (refl, omega arith)
