-- Trailing zeros count to the lowest set bit. Assumes nothing.
use borrow.Author.Rules.{rules}
use Rattle.words.proofs.LowestLaws.{lowest_trailing}
use Rattle.words.proofs.bits.lowest.Goals as goal

pub returns : goal.returns
returns c = lowest_trailing 64 c.args.w c.requires (search rules)
