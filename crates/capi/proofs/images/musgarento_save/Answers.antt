-- 60 or 1 where the bytes are no card's; else the save of the card that they hold, whose bytes stay. Assumes nothing.
use Rattle.std.proofs.Common.{refl, sym}
use Rattle.model.proofs.Calls.OutcomeLaws.{plain-call, save_stays}
use Rattle.capi.proofs.CardFor.{card-room, is-readable}
use Rattle.capi.proofs.CrossingFor.{not_read, saves-back}
use Rattle.model.specs.Calls.{save}
use Rattle.capi.proofs.images.musgarento_save.Goals as goal

pub card_of-held-requires : goal.card_of-held-requires
card_of-held-requires c = card-room (is-readable _ c.in-Ok.ensures)

pub returns-in-Err : goal.returns-in-Err
returns-in-Err c = let a = c.args in not_read _ _ _ (save a.out.now) _ c.in-Err.ensures _ c.number.ensures

pub returns : goal.returns
returns c =
    let a = c.args in
    let accepted = sym (c.in-Ok.ensures _) in
    saves-back _ _ _ (save a.out.now) accepted _ c.card_of-held.ensures _ _ _ _ c.save-outcome.ensures _ c.numbers_of-numbers.ensures
    (λ i. (c.type_inv.card i).fits) (is-readable _ c.in-Ok.ensures) (plain-call _ _ refl refl) (save_stays _ _)
