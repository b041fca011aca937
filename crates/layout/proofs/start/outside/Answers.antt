-- `outside` meets its contract. Assumes nothing.
use Rattle.std.proofs.Common.{rules, tests}
use Rattle.model.specs.Start.{outside}
use Rattle.layout.proofs.start.outside.Goals as goal

pub returns-then-r-gt5 : goal.returns-then-r-gt5
unfolding outside
returns-then-r-gt5 c = search (rules, tests)

pub returns-else-r-gt5 : goal.returns-else-r-gt5
unfolding outside
returns-else-r-gt5 c = search (rules, tests)
