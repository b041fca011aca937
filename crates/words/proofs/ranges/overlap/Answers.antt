-- `overlap` meets its contract. Assumes nothing.
use borrow.Author.Tests.{lt-ltb, le-ltb}
use Rattle.words.specs.Lists.{overlap}
use Rattle.words.proofs.ranges.overlap.Goals as goal

pub returns-then-a-b : goal.returns-then-a-b
unfolding overlap
returns-then-a-b c = rw (lt-ltb _ _ c.if-a-b.true)

pub returns-else-a-b : goal.returns-else-a-b
unfolding overlap
returns-else-a-b c = rw (le-ltb _ _ c.if-a-b.false)
