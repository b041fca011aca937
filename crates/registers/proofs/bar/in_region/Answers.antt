-- The tests in their order. Assumes nothing.
use Rattle.std.proofs.Common.{rules, tests}
use Rattle.model.specs.Registers.{in_region}
use Rattle.registers.proofs.bar.in_region.Goals as goal

pub returns-then-bar-r : goal.returns-then-bar-r
unfolding in_region
returns-then-bar-r c = search (rules, tests)

pub returns-else-bar-r : goal.returns-else-bar-r
unfolding in_region
returns-else-bar-r c = search (rules, tests)
