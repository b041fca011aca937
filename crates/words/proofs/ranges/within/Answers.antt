-- The place is counted from lo on. Assumes nothing.
use borrow.Author.Tests.{le-leb, lt-leb}
use Rattle.words.specs.Lists.{within}
use Rattle.words.proofs.ListLaws.{below_from}
use Rattle.words.proofs.ranges.within.Goals as goal

pub returns-then-lo-k : goal.returns-then-lo-k
unfolding within
returns-then-lo-k c = let a = c.args in rw (le-leb _ _ c.if-lo-k.true) (below_from a.lo a.n a.k c.if-lo-k.true)

pub returns-else-lo-k : goal.returns-else-lo-k
unfolding within
returns-else-lo-k c = rw (lt-leb _ _ c.if-lo-k.false)
