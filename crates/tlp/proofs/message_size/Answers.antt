-- The two cases of the test. Assumes nothing.
use borrow.Author.Tests.{eq-eqb, ne_eqb}
use Rattle.model.specs.Packets.{message_size}
use Rattle.tlp.proofs.message_size.Goals as goal

pub returns-then-upper-eq0 : goal.returns-then-upper-eq0
unfolding message_size
returns-then-upper-eq0 c = rw (eq-eqb _ _ c.if-upper-eq0.true)

pub returns-else-upper-eq0 : goal.returns-else-upper-eq0
unfolding message_size
returns-else-upper-eq0 c = rw (ne_eqb _ _ c.if-upper-eq0.false)
