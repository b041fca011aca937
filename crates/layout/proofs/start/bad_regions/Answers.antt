-- `bad_regions` meets its contract. Assumes nothing.
use Rattle.std.proofs.Common.{rules, tests}
use Rattle.model.specs.Start.{bad_regions}
use Rattle.model.specs.Shape.{msix_present}
use Rattle.layout.proofs.start.bad_regions.Goals as goal

pub returns-then-outside-2 : goal.returns-then-outside-2
unfolding bad_regions msix_present
returns-then-outside-2 c = search (rules, tests)

pub returns-then-table-pending : goal.returns-then-table-pending
unfolding bad_regions msix_present
returns-then-table-pending c = search (rules, tests)

pub returns-else-table-pending : goal.returns-else-table-pending
unfolding bad_regions msix_present
returns-else-table-pending c = search (rules, tests)

pub returns-else-s-ne0 : goal.returns-else-s-ne0
unfolding bad_regions msix_present
returns-else-s-ne0 c = search (rules, tests)
