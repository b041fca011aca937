-- `bad_header` meets its contract. Assumes nothing.
use borrow.Author.Tests.{eq-eqb, ne_eqb}
use Rattle.model.specs.Start.{bad_header}
use Rattle.layout.proofs.start.bad_header.Goals as goal

pub returns-then-c-ne0 : goal.returns-then-c-ne0
unfolding bad_header
returns-then-c-ne0 c = rw (ne_eqb _ _ c.if-c-ne0.true)

pub returns-else-c-ne0 : goal.returns-else-c-ne0
unfolding bad_header
returns-else-c-ne0 c = rw (eq-eqb _ _ c.if-c-ne0.false)
