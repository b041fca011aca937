-- No bit of a word is set at 32 or above. Assumes nothing.
use mathlib.Core.Path.{sym}
use borrow.Author.Rules.{rules}
use Rattle.words.proofs.BitLaws.{bit_above}
use Rattle.vectors.proofs.waiting.msi_waits.Goals as goal

pub returns-then-n-ge32 : goal.returns-then-n-ge32
returns-then-n-ge32 c = let a = c.args in sym (bit_above 32 a.waiting a.v.0 (search rules) c.if-n-ge32.true)
