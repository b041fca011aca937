-- The frame, which puts the card together. Assumes nothing.
use mathlib.Core.Path.{refl, ◌∙◌}
use Rattle.card.proofs.CallsFor.{frame_refused, frame_core}
use Rattle.card.proofs.SoundFor.{running_fit}
use Rattle.interrupt.proofs.EventFor.{fate_outcome}
use Rattle.interrupt.proofs.withdraw.withdraw.Goals as goal

pub returns-in_default : goal.returns-in_default
returns-in_default c = frame_refused _ _ _ _ _ c.in_default.ensures c.refuse.ensures

pub withdraw_core-fate-requires : goal.withdraw_core-fate-requires
withdraw_core-fate-requires c =
    let fit = running_fit c.in-Some.ensures.0 in
    (fit.shape.capable, fit.pending)

pub returns : goal.returns
returns c =
    fate_outcome c.args.card _ _ _ _ _ _ c.with_waiting-function.ensures c.accepted.ensures
    ∙ frame_core c.in-Some.ensures.0 _ _ (c.withdraw_core-fate.ensures _ _ refl c.in-Some.ensures.0)
