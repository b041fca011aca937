-- 60 or 1 where the bytes are no card's; else the event on the card that they hold, its card handed back. Assumes nothing.
use Rattle.std.proofs.Common.{refl, sym, ◌∙◌}
use Rattle.model.proofs.Calls.OutcomeLaws.{no_value}
use Rattle.model.proofs.Calls.WideCalls.{wide_event}
use Rattle.capi.proofs.CardFor.{card-room, is-readable}
use Rattle.capi.proofs.CrossingFor.{not_read, answers-back}
use Rattle.model.specs.Calls.{event}
use Rattle.capi.proofs.events.musgarento_event.Goals as goal

pub card_of-held-requires : goal.card_of-held-requires
card_of-held-requires c = card-room (is-readable _ c.in-Ok.ensures)

pub returns-in-Err : goal.returns-in-Err
returns-in-Err c = let a = c.args in not_read _ _ _ (event a.number a.out.now) _ c.in-Err.ensures _ c.number.ensures

pub hand_back-numbers-requires : goal.hand_back-numbers-requires
hand_back-numbers-requires c = (is-readable _ c.in-Ok.ensures).size

pub returns : goal.returns
returns c =
    let a = c.args in
    let accepted = sym (c.in-Ok.ensures _) in
    let outcome = c.event-outcome.ensures ∙ wide_event _ _ _ _ c.narrow16.ensures in
    answers-back _ _ _ (event a.number a.out.now) accepted _ c.card_of-held.ensures _ _ _ _ outcome _
    c.hand_back-numbers.ensures.0 _ c.hand_back-numbers.ensures.1 (no_value _ _ refl)
