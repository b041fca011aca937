use mathlib.Core.Path.{sym, ◌∙◌}
use mathlib.Core.Bool.{false≢true}
use Rattle.cases.proofs.one.Goals as goal

pub returns-else-good : goal.returns-else-good
returns-else-good g c =
    absurd (false≢true (sym c.if-good.false ∙ c.case-good.ensures c.requires.0 c.requires.1))
