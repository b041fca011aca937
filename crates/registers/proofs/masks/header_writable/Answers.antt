-- One row of the definition for each arm. Assumes nothing.
use Rattle.std.proofs.Common.{rules, tests}
use Rattle.words.specs.Lists.{first_of}
use Rattle.model.specs.Registers.{header_writable}
use Rattle.registers.proofs.masks.header_writable.Goals as goal

pub returns-in-4 : goal.returns-in-4
unfolding header_writable first_of
returns-in-4 c = search (rules, tests)

pub returns-in-5 : goal.returns-in-5
unfolding header_writable first_of
returns-in-5 c = search (rules, tests)

pub returns-in-60 : goal.returns-in-60
unfolding header_writable first_of
returns-in-60 c = search (rules, tests)

pub returns-in_default : goal.returns-in_default
unfolding header_writable first_of
returns-in_default c = search (rules, tests)
