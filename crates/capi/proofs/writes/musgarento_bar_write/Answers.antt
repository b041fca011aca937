-- 60 or 1 where the bytes are no card's; else the write to the card that they hold, its card handed back. Assumes nothing.
use Rattle.std.proofs.Common.{refl, sym, rules, Fits, w8, ◌∙◌}
use Rattle.words.specs.Bytes.{byte, Bytes}
use Rattle.model.proofs.Calls.OutcomeLaws.{plain-call}
use Rattle.model.proofs.Calls.WideCalls.{wide-bar-write}
use Rattle.capi.proofs.CardFor.{card-room, is-readable, sizes-small}
use Rattle.capi.proofs.CrossingFor.{not_read, sends-back}
use Rattle.model.specs.Calls.{bar_write}
use Rattle.capi.proofs.writes.musgarento_bar_write.Goals as goal

pub card_of-held-requires : goal.card_of-held-requires
card_of-held-requires c = card-room (is-readable _ c.in-Ok.ensures)

pub returns-in-Err : goal.returns-in-Err
returns-in-Err c = let a = c.args in not_read _ _ _ (bar_write a.bar a.offset a.width a.value a.out.now) _ c.in-Err.ensures _ c.number.ensures

pub hand_back-numbers-requires : goal.hand_back-numbers-requires
hand_back-numbers-requires c = (is-readable _ c.in-Ok.ensures).size

pub returns : goal.returns
returns c =
    let a = c.args in
    let accepted = sym (c.in-Ok.ensures _) in
    let bytes : Bytes a.card.now = λ i. let b : Fits w8 (byte a.card.now i) = search rules in b.fits in
    let small = sizes-small _ bytes (is-readable _ c.in-Ok.ensures).size _ c.card_of-held.ensures in
    let outcome = c.bar_write-outcome.ensures ∙ wide-bar-write _ small _ _ _ _ _ _ c.narrow8.ensures c.narrow32.ensures c.narrow8-2.ensures _ _ in
    sends-back _ _ _ (bar_write a.bar a.offset a.width a.value a.out.now) accepted _ c.card_of-held.ensures _ _ _ _ outcome _
    c.hand_back-numbers.ensures.0 _ c.hand_back-numbers.ensures.1 (plain-call _ _ refl refl)
