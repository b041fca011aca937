-- `bad_events` meets its contract. Assumes nothing.
use Rattle.std.proofs.Common.{rules, tests}
use Rattle.model.specs.Start.{bad_events}
use Rattle.model.specs.Shape.{msix_present}
use Rattle.layout.proofs.start.bad_events.Goals as goal

pub returns-then-events-gt2048 : goal.returns-then-events-gt2048
unfolding bad_events msix_present
returns-then-events-gt2048 c = search (rules, tests)

pub returns-then-s-ne0 : goal.returns-then-s-ne0
unfolding bad_events msix_present
returns-then-s-ne0 c = search (rules, tests)

pub returns-else-s-ne0 : goal.returns-else-s-ne0
unfolding bad_events msix_present
returns-else-s-ne0 c = search (rules, tests)
