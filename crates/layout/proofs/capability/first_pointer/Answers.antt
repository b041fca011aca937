-- `first_pointer` meets its contract: Status bit 4 is the test. Assumes nothing.
use borrow.Author.Tests.{eq-eqb, ne_eqb}
use Rattle.words.specs.Bits.{bit}
use Rattle.layout.specs.Places.{first_pointer}
use Rattle.layout.proofs.capability.first_pointer.Goals as goal

pub returns-then-c-eq1 : goal.returns-then-c-eq1
unfolding first_pointer bit
returns-then-c-eq1 c = rw (eq-eqb _ _ c.if-c-eq1.true)

pub returns-else-c-eq1 : goal.returns-else-c-eq1
unfolding first_pointer bit
returns-else-c-eq1 c = rw (ne_eqb _ _ c.if-c-eq1.false)
