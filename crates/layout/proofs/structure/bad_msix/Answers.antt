-- `bad_msix` meets its contract. Assumes nothing.
use Rattle.std.proofs.Common.{rules, tests}
use Rattle.layout.specs.Checks.{bad_msix}
use Rattle.model.specs.Shape.{msix_present}
use Rattle.layout.proofs.structure.bad_msix.Goals as goal

pub returns-then-s-ne0 : goal.returns-then-s-ne0
unfolding bad_msix msix_present
returns-then-s-ne0 c = search (rules, tests)

pub returns-else-s-ne0 : goal.returns-else-s-ne0
unfolding bad_msix msix_present
returns-else-s-ne0 c = search (rules, tests)
