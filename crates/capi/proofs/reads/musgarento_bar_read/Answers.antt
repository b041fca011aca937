-- 60 or 1 where the bytes are no card's; else the read of the card that they hold, whose bytes stay. Assumes nothing.
use Rattle.std.proofs.Common.{sym, ◌∙◌}
use Rattle.model.proofs.Calls.OutcomeLaws.{reads-bar}
use Rattle.model.proofs.Calls.WideCalls.{wide-bar-read}
use Rattle.capi.proofs.CardFor.{card-room, is-readable, sizes-small}
use Rattle.capi.proofs.CrossingFor.{not_read, reads-back}
use Rattle.model.specs.Calls.{bar_read}
use Rattle.capi.proofs.reads.musgarento_bar_read.Goals as goal

pub card_of-held-requires : goal.card_of-held-requires
card_of-held-requires c = card-room (is-readable _ c.in-Ok.ensures)

pub returns-in-Err : goal.returns-in-Err
returns-in-Err c = let a = c.args in not_read _ _ _ (bar_read a.bar a.offset a.width) _ c.in-Err.ensures _ c.number.ensures

pub returns : goal.returns
returns c =
    let a = c.args in
    let accepted = sym (c.in-Ok.ensures _) in
    let small = sizes-small _ (λ i. (c.type_inv.card i).fits) (is-readable _ c.in-Ok.ensures).size _ c.card_of-held.ensures in
    let outcome = c.bar_read-outcome.ensures ∙ wide-bar-read _ small _ _ _ _ _ _ c.narrow8.ensures c.narrow32.ensures c.narrow8-2.ensures in
    reads-back _ _ _ (bar_read a.bar a.offset a.width) accepted _ c.card_of-held.ensures _ _ _ _ outcome _ c.numbers_of-numbers.ensures
    (λ i. (c.type_inv.card i).fits) (is-readable _ c.in-Ok.ensures) (reads-bar _ _ _ _)
