-- The frame, which puts the card together. Assumes nothing.
use mathlib.Core.Path.{◌∙◌}
use Rattle.card.proofs.CallsFor.{frame_refused, frame_core, frame_runs}
use Rattle.interrupt.proofs.EventFor.{fate_outcome}
use Rattle.interrupt.proofs.event.event.Goals as goal

pub returns-in_default : goal.returns-in_default
returns-in_default c = frame_refused _ _ _ _ _ c.in_default.ensures c.refuse.ensures

pub event_core-fate-requires : goal.event_core-fate-requires
event_core-fate-requires c = record { sizes = _; line = _; wire = _; runs = frame_runs c.in-Some.ensures }

pub returns : goal.returns
returns c =
    fate_outcome c.args.card _ _ _ _ _ _ c.with_waiting-function.ensures c.accepted.ensures
    ∙ frame_core (frame_runs c.in-Some.ensures) _ _ (c.event_core-fate.ensures _ _ _ (frame_runs c.in-Some.ensures))
