-- 60 or 1 where the bytes are no card's; else the withdrawal on the card that they hold, its card and its value handed back. Assumes nothing.
use Rattle.std.proofs.Common.{sym, ◌∙◌}
use Rattle.model.proofs.Calls.OutcomeLaws.{withdraw-numbers}
use Rattle.model.proofs.Calls.WideCalls.{wide_withdraw}
use Rattle.capi.proofs.CardFor.{card-room, is-readable}
use Rattle.capi.proofs.CrossingFor.{not_read, values-back}
use Rattle.capi.proofs.WithdrawFor.{was_small}
use Rattle.model.specs.Calls.{withdraw}
use Rattle.capi.proofs.withdrawals.musgarento_withdraw.Goals as goal

pub card_of-held-requires : goal.card_of-held-requires
card_of-held-requires c = card-room (is-readable _ c.in-Ok.ensures)

pub returns-in-Err : goal.returns-in-Err
returns-in-Err c = let a = c.args in not_read _ _ _ (withdraw a.vector) _ c.in-Err.ensures _ c.number.ensures

pub hand_back-numbers-requires : goal.hand_back-numbers-requires
hand_back-numbers-requires c = (is-readable _ c.in-Ok.ensures).size

pub overflow_cast-was : goal.overflow_cast-was
overflow_cast-was c = record { fits = was_small _ _ _ _ _ _ _ c.withdraw-outcome.ensures c.hand_back-numbers.ensures.0 }

pub returns : goal.returns
returns c =
    let a = c.args in
    let accepted = sym (c.in-Ok.ensures _) in
    let outcome = c.withdraw-outcome.ensures ∙ wide_withdraw _ _ _ c.narrow16.ensures in
    let numbers = withdraw-numbers _ _ in
    values-back _ _ _ (withdraw a.vector) accepted _ c.card_of-held.ensures _ _ _ _ outcome _
    c.hand_back-numbers.ensures.0 _ c.hand_back-numbers.ensures.1 numbers.event numbers.count
