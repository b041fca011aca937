use borrow.Author.Tests.{ne_eqb}
use Rattle.call_log.specs.Players.{fits_later}
use Rattle.call_log.proofs.scan.fits_later.Goals as goal

pub returns-then-kind : goal.returns-then-kind
unfolding fits_later
returns-then-kind c = rw (ne_eqb _ 2 c.if-kind.true)

pub returns-else-kind : goal.returns-else-kind
unfolding fits_later
returns-else-kind c = rw c.if-kind.false
