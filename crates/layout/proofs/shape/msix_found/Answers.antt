-- `msix_found` meets its contract. Assumes nothing.
use Rattle.std.proofs.Common.{rules}
use Rattle.model.specs.Shape.{no_msix}
use Rattle.layout.proofs.shape.msix_found.Goals as goal

pub returns-in-Nowhere : goal.returns-in-Nowhere
unfolding no_msix
returns-in-Nowhere c = search rules
