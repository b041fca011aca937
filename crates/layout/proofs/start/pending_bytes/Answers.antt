-- `pending_bytes` meets its contract. Assumes nothing.
use mathlib.Core.Path.{refl}
use native.Mathlib.Omega.{arith}
use Rattle.model.specs.Shape.{pending_bytes}
use Rattle.layout.proofs.start.pending_bytes.Goals as goal

pub returns : goal.returns
unfolding pending_bytes
returns c = (refl, omega arith)
