-- The bits outside the mask: `!mask & old` is `clear mask old`. Assumes nothing.
use borrow.Author.Rules.{rules}
use Rattle.words.specs.Bits.{merge}
use Rattle.words.proofs.BitLaws.{and-not}
use Rattle.words.proofs.bits.merge.Goals as goal

pub returns : goal.returns
unfolding merge
returns c = rw (and-not 8 c.args.mask c.args.old (search rules) (search rules))
