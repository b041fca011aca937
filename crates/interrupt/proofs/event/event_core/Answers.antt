-- Refused by row 2, lost under the pin, or raised. Assumes nothing.
use mathlib.Core.Path.{refl, ap, ◌∙◌}
use Rattle.model.proofs.Calls.EventCalls.{event-refused}
use Rattle.card.proofs.CallsFor.{core_row}
use Rattle.card.proofs.SoundFor.{running_fit}
use Rattle.card.specs.Running.{card_with}
use Rattle.interrupt.specs.Raises.{fated}
use Rattle.interrupt.proofs.EventFor.{none_of, event-lost, event-vector-counted, event-raised}
use Rattle.interrupt.proofs.event.event_core.Goals as goal

pub returns-then-card-number : goal.returns-then-card-number
returns-then-card-number c =
    λ z l y k.
    let f = c.args.card.now.function in
    let card = card_with f.config z f.events f.requester l f.waiting y in
    core_row card _ _ _ 2 _ (event-refused _ _ _ c.if-card-number.true) refl (ap (fated card) c.refused.ensures)

pub returns-in_default : goal.returns-in_default
returns-in_default c =
    λ z l y k.
    let f = c.args.card.now.function in
    let card = card_with f.config z f.events f.requester l f.waiting y in
    event-lost card _ _ _ _ k _ c.if-card-number.false _ (c.event_vector.ensures _) (none_of _ c.in_default.not-Some) _
    (ap (fated card) c.quiet.ensures)

pub raise-requires : goal.raise-requires
raise-requires c =
    let runs = c.requires.runs in (
      runs.profiled,
      running_fit runs,
      event-vector-counted _ _ _ c.args.out.now _ runs _ c.if-card-number.false _ (c.event_vector.ensures _) _ c.in-Some.is,
    )

pub returns : goal.returns
returns c =
    λ z l y k.
    let f = c.args.card.now.function in
    c.raise.ensures z _ l y
    ∙ event-raised (card_with f.config z f.events f.requester l f.waiting y) _ _ _ _ k _ c.if-card-number.false _ (c.event_vector.ensures _) _ c.in-Some.is
