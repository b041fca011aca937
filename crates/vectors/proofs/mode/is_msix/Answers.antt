use mathlib.Core.Path.{◌∙◌}
use Rattle.vectors.proofs.ModeLaws.{equals_msix}
use Rattle.vectors.proofs.mode.is_msix.Goals as goal

pub returns : goal.returns
returns c = c.eq.ensures ∙ equals_msix c.args.m
