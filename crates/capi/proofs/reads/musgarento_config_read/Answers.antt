-- 60 or 1 where the bytes are no card's; else the read of the card that they hold, whose bytes stay; its value has 32 bits at most. Assumes nothing.
use Rattle.std.proofs.Common.{◌≡◌, length, sym, rules, ◌∙◌, Fits, w8}
use Rattle.words.specs.Bytes.{byte, Bytes}
use Rattle.model.proofs.Calls.OutcomeLaws.{reads-config}
use Rattle.model.proofs.Calls.WideCalls.{wide-config-read}
use Rattle.capi.proofs.CardFor.{card-room, is-readable}
use Rattle.capi.proofs.CrossingFor.{not_read, reads-back}
use Rattle.capi.proofs.ReadFor.{number_small}
use Rattle.model.specs.Calls.{config_read}
use Rattle.capi.proofs.reads.musgarento_config_read.Goals as goal

pub card_of-held-requires : goal.card_of-held-requires
card_of-held-requires c = card-room (is-readable _ c.in-Ok.ensures)

pub returns-in-Err : goal.returns-in-Err
returns-in-Err c = let a = c.args in not_read _ _ _ (config_read a.offset a.width) _ c.in-Err.ensures _ c.number.ensures

pub overflow_cast-value : goal.overflow_cast-value
overflow_cast-value c =
    let held = c.card_of-held.result in
    let bytes : Bytes held.function.config = λ i. let b : Fits w8 (byte held.function.config i) = search rules in b.fits in
    let size : length held.function.config ≡ 256 = search rules in
    record { fits = number_small held _ _ _ _ _ _ bytes size c.config_read-outcome.ensures c.numbers_of-numbers.ensures }

pub returns : goal.returns
returns c =
    let a = c.args in
    let accepted = sym (c.in-Ok.ensures _) in
    let outcome = c.config_read-outcome.ensures ∙ wide-config-read _ _ _ _ _ c.narrow16.ensures c.narrow8.ensures in
    reads-back _ _ _ (config_read a.offset a.width) accepted _ c.card_of-held.ensures _ _ _ _ outcome _ c.numbers_of-numbers.ensures
    (λ i. (c.type_inv.card i).fits) (is-readable _ c.in-Ok.ensures) (reads-config _ _ _)
