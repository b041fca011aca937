-- A shift of 1 is the power of 2; all other bits of the word are kept. Assumes nothing.
use borrow.Author.Rules.{rules}
use borrow.Author.Tests.{eq-eqb, ne_eqb}
use Rattle.words.specs.Bits.{set_bit}
use Rattle.words.proofs.LowestLaws.{one_shl}
use Rattle.words.proofs.BitLaws.{clear-one}
use Rattle.vectors.proofs.waiting.change_waiting.Goals as goal

pub returns-then-this-ne0 : goal.returns-then-this-ne0
unfolding set_bit
returns-then-this-ne0 g c =
    rw (ne_eqb g.row.SET 0 c.if-this-ne0.true, one_shl 32 c.args.v.0 c.requires)

pub returns-else-this-ne0 : goal.returns-else-this-ne0
returns-else-this-ne0 g c =
    rw (eq-eqb g.row.SET 0 c.if-this-ne0.false, one_shl 32 c.args.v.0 c.requires) (clear-one 32 _ _ c.requires (search rules))
