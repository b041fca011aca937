-- One row of the definition for each arm. Assumes nothing.
use Rattle.std.proofs.Common.{rules, tests}
use Rattle.words.specs.Lists.{first_of}
use Rattle.model.specs.Registers.{entry_writable}
use Rattle.registers.proofs.table.EntriesMasks.mask.Goals as goal

pub returns-in-0 : goal.returns-in-0
unfolding entry_writable first_of
returns-in-0 c = search (rules, tests)

pub returns-in-12 : goal.returns-in-12
unfolding entry_writable first_of
returns-in-12 c = search (rules, tests)

pub returns-in-1-to-11 : goal.returns-in-1-to-11
unfolding entry_writable first_of
returns-in-1-to-11 c = search (rules, tests)

pub returns-in_default : goal.returns-in_default
unfolding entry_writable first_of
returns-in_default c = search (rules, tests)
