-- 60 or 1 where the bytes are no card's; else the reset of the card that they hold, its card handed back. Assumes nothing.
use Rattle.std.proofs.Common.{refl, sym}
use Rattle.model.proofs.Calls.OutcomeLaws.{plain-call}
use Rattle.capi.proofs.CardFor.{card-room, is-readable}
use Rattle.capi.proofs.CrossingFor.{not_read, sends-back}
use Rattle.model.specs.Calls.{reset}
use Rattle.capi.proofs.starts.musgarento_reset.Goals as goal

pub card_of-held-requires : goal.card_of-held-requires
card_of-held-requires c = card-room (is-readable _ c.in-Ok.ensures)

pub returns-in-Err : goal.returns-in-Err
returns-in-Err c = let a = c.args in not_read _ _ _ (reset a.out.now) _ c.in-Err.ensures _ c.number.ensures

pub hand_back-numbers-requires : goal.hand_back-numbers-requires
hand_back-numbers-requires c = (is-readable _ c.in-Ok.ensures).size

pub returns : goal.returns
returns c =
    let a = c.args in
    let accepted = sym (c.in-Ok.ensures _) in
    sends-back _ _ _ (reset a.out.now) accepted _ c.card_of-held.ensures _ _ _ _ c.reset-outcome.ensures _
    c.hand_back-numbers.ensures.0 _ c.hand_back-numbers.ensures.1 (plain-call _ _ refl refl)
