-- One way out for each width. Assumes nothing.
use borrow.Author.Tests.{eq-eqb, ne_eqb}
use Rattle.bar_access.proofs.bounds.is_bar_width.Goals as goal

pub returns-then-width-eq4 : goal.returns-then-width-eq4
returns-then-width-eq4 c = rw (eq-eqb _ _ c.if-width-eq4.true)

pub returns : goal.returns
returns c = rw (ne_eqb _ _ c.if-width-eq4.false)
