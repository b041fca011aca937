-- `table_bytes` meets its contract. Assumes nothing.
use mathlib.Core.Path.{refl}
use native.Mathlib.Omega.{arith}
use Rattle.model.specs.Shape.{table_bytes}
use Rattle.layout.proofs.start.table_bytes.Goals as goal

pub returns : goal.returns
unfolding table_bytes
returns c = (refl, omega arith)
