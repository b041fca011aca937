use mathlib.Core.Path.{◌∙◌}
use borrow.Author.Rules.{rules}
use Rattle.call_log.proofs.PlayerLaws.{counted_on}
use Rattle.call_log.proofs.advance.counted.Goals as goal

pub returns : goal.returns
returns c = c.saturating_add.ensures ∙ counted_on _ (search rules)
