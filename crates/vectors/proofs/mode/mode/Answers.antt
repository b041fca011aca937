-- The two tests in their order. Assumes nothing.
use mathlib.Core.Path.{sym, ◌∙◌}
use Rattle.model.specs.Vectors.{mode_of}
use Rattle.vectors.proofs.mode.mode.Goals as goal

pub returns-then-msix_on : goal.returns-then-msix_on
unfolding mode_of
returns-then-msix_on c = λ t. rw (sym (c.msix_on.ensures t) ∙ c.if-msix_on.true)

pub returns-then-msi_on : goal.returns-then-msi_on
unfolding mode_of
returns-then-msi_on c = λ t. rw (sym (c.msix_on.ensures t) ∙ c.if-msix_on.false, sym (c.msi_on.ensures t) ∙ c.if-msi_on.true)

pub returns : goal.returns
unfolding mode_of
returns c = λ t. rw (sym (c.msix_on.ensures t) ∙ c.if-msix_on.false, sym (c.msi_on.ensures t) ∙ c.if-msi_on.false)
