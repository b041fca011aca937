use mathlib.Core.Path.{◌∙◌}
use Rattle.vectors.proofs.ModeLaws.{equals_pin}
use Rattle.vectors.proofs.mode.is_pin.Goals as goal

pub returns : goal.returns
returns c = c.eq.ensures ∙ equals_pin c.args.m
