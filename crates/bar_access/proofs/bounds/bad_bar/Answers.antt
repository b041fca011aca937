-- One law for each way out. Assumes nothing.
use mathlib.Core.Path.{refl}
use Rattle.model.proofs.Registers.AccessBounds.{is_bar_width, width_positive, bar_above, bar_width, bar_multiple, bar_table, bar_pending}
use Rattle.std.proofs.lemmas.Bool.{not_from_false, not_from_true}
use Rattle.bar_access.proofs.bounds.bad_bar.Goals as goal

pub returns-then-bar-gt5 : goal.returns-then-bar-gt5
returns-then-bar-gt5 c = bar_above _ _ _ _ c.if-bar-gt5.true

pub returns-then-not-is_bar_width : goal.returns-then-not-is_bar_width
returns-then-not-is_bar_width c = bar_width _ _ _ _ _ c.if-bar-gt5.false c.is_bar_width.ensures (not_from_false _ c.if-not-is_bar_width.true)

pub nonzero_rem-offset : goal.nonzero_rem-offset
nonzero_rem-offset c = width_positive is_bar_width refl _ _ c.is_bar_width.ensures (not_from_true _ c.if-not-is_bar_width.false)

pub returns-then-offset-width-ne0 : goal.returns-then-offset-width-ne0
returns-then-offset-width-ne0 c =
    bar_multiple _ _ _ _ _ c.if-bar-gt5.false c.is_bar_width.ensures (not_from_true _ c.if-not-is_bar_width.false) c.if-offset-width-ne0.true

pub returns-then-in_table : goal.returns-then-in_table
returns-then-in_table c =
    bar_table _ _ _ _ _ c.if-bar-gt5.false c.is_bar_width.ensures _ (not_from_true _ c.if-not-is_bar_width.false) c.if-offset-width-ne0.false c.in_table.ensures
    c.if-in_table.true

pub returns : goal.returns
returns c =
    bar_pending _ _ _ _ _ c.if-bar-gt5.false c.is_bar_width.ensures _ _ (not_from_true _ c.if-not-is_bar_width.false) c.if-offset-width-ne0.false
    c.in_table.ensures c.if-in_table.false c.in_pending.ensures
