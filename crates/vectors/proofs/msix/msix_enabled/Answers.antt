-- One way out for each test. Assumes nothing.
use mathlib.Core.Path.{sym, ◌∙◌}
use Rattle.model.specs.Vectors.{same_mode, in_force}
use Rattle.vectors.specs.Enabled.{msix_enabled}
use Rattle.vectors.proofs.msix.msix_enabled.Goals as goal

pub returns-then-msix_control_bit : goal.returns-then-msix_control_bit
unfolding msix_enabled in_force same_mode
returns-then-msix_control_bit c =
    λ t. rw (c.requires.1 t, sym (c.msix_control_bit.ensures t) ∙ c.if-msix_control_bit.true)

pub returns : goal.returns
unfolding msix_enabled in_force same_mode
returns c =
    λ t. rw (c.requires.1 t, sym (c.msix_control_bit.ensures t) ∙ c.if-msix_control_bit.false) (c.command_bit.ensures t)
