-- `msi_found` meets its contract. Assumes nothing.
use Rattle.std.proofs.Common.{rules}
use Rattle.model.specs.Shape.{no_msi}
use Rattle.layout.proofs.shape.msi_found.Goals as goal

pub returns-in-Nowhere : goal.returns-in-Nowhere
unfolding no_msi
returns-in-Nowhere c = search rules
