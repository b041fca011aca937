-- One way out for each width. Assumes nothing.
use borrow.Author.Tests.{eq-eqb, ne_eqb}
use Rattle.config_access.proofs.bounds.is_config_width.Goals as goal

pub returns-then-width-eq1 : goal.returns-then-width-eq1
returns-then-width-eq1 c = rw (eq-eqb _ _ c.if-width-eq1.true)

pub returns-then-width-eq2 : goal.returns-then-width-eq2
returns-then-width-eq2 c = rw (ne_eqb _ _ c.if-width-eq1.false, eq-eqb _ _ c.if-width-eq2.true)

pub returns : goal.returns
returns c = rw (ne_eqb _ _ c.if-width-eq1.false, ne_eqb _ _ c.if-width-eq2.false)
