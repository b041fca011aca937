-- `bad_pair` meets its contract. Assumes nothing.
use Rattle.std.proofs.Common.{rules, tests}
use Rattle.layout.specs.Checks.{bad_pair}
use Rattle.model.specs.Shape.{msi_present, msix_present}
use Rattle.layout.proofs.structure.bad_pair.Goals as goal

pub returns-then-s-ne0-2 : goal.returns-then-s-ne0-2
unfolding bad_pair msi_present msix_present
returns-then-s-ne0-2 c = search (rules, tests)

pub returns-else-s-ne0-2 : goal.returns-else-s-ne0-2
unfolding bad_pair msi_present msix_present
returns-else-s-ne0-2 c = search (rules, tests)
