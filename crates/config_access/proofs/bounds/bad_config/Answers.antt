-- One law for each way out. Assumes nothing.
use mathlib.Core.Path.{refl}
use Rattle.model.proofs.Registers.AccessBounds.{is_width, width_positive, wrong_width, not_multiple, above}
use Rattle.std.proofs.lemmas.Bool.{not_from_false, not_from_true}
use Rattle.config_access.proofs.bounds.bad_config.Goals as goal

pub returns-then-not-is_config_width : goal.returns-then-not-is_config_width
returns-then-not-is_config_width c = wrong_width _ _ _ c.is_config_width.ensures (not_from_false _ c.if-not-is_config_width.true)

pub nonzero_rem-offset : goal.nonzero_rem-offset
nonzero_rem-offset c = width_positive is_width refl _ _ c.is_config_width.ensures (not_from_true _ c.if-not-is_config_width.false)

pub returns-then-offset-width-ne0 : goal.returns-then-offset-width-ne0
returns-then-offset-width-ne0 c =
    not_multiple _ _ _ c.is_config_width.ensures (not_from_true _ c.if-not-is_config_width.false) c.if-offset-width-ne0.true

pub returns : goal.returns
returns c =
    above _ _ _ c.is_config_width.ensures (not_from_true _ c.if-not-is_config_width.false) c.if-offset-width-ne0.false
