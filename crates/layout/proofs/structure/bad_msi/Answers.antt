-- `bad_msi` meets its contract. Assumes nothing.
use Rattle.std.proofs.Common.{rules, tests}
use Rattle.layout.specs.Checks.{bad_msi}
use Rattle.model.specs.Shape.{msi_present}
use Rattle.layout.proofs.structure.bad_msi.Goals as goal

pub returns-then-s-gt5 : goal.returns-then-s-gt5
unfolding bad_msi msi_present
returns-then-s-gt5 c = search (rules, tests)

pub returns-else-s-gt5 : goal.returns-else-s-gt5
unfolding bad_msi msi_present
returns-else-s-gt5 c = search (rules, tests)

pub returns-else-s-ne0 : goal.returns-else-s-ne0
unfolding bad_msi msi_present
returns-else-s-ne0 c = search (rules, tests)
