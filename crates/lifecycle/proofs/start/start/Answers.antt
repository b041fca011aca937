-- Refused with the number of the check, or started. Assumes nothing.
use mathlib.Core.Path.{sym, ap, ◌∙◌}
use Rattle.model.specs.Refusals.{refusal_in}
use Rattle.model.proofs.RefusalLaws.{not_zero}
use Rattle.lifecycle.proofs.StartFor.{start_fits, start-refused, start-accepted}
use Rattle.lifecycle.proofs.start.start.Goals as goal

pub returns-in-Err : goal.returns-in-Err
returns-in-Err c =
    let told = c.check_start-checked.ensures in
    start-refused _ _ _ _ _ _ (sym (ap refusal_in c.in-Err.is) ∙ told.refusal) (not_zero c.in-Err.why) c.zero_card.ensures c.refuse.ensures

pub started-function-requires : goal.started-function-requires
started-function-requires c =
    let told = c.check_start-checked.ensures in
    (told.checked.0, start_fits _ _ _ told.refusal (ap refusal_in c.in_default.is) told.checked.0, told.checked.2)

pub returns : goal.returns
returns c =
    start-accepted _ _ _ _ _ _ _ c.check_start-checked.ensures.refusal (ap refusal_in c.in_default.is) c.started-function.ensures c.accepted.ensures
