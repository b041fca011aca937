-- 60 where the card's length is another; else the restore of the image, its card handed back. Assumes nothing.
use Rattle.capi.proofs.CrossingFor.{restore-stops, restore-reads, restores-back}
use Rattle.capi.proofs.images.musgarento_restore.Goals as goal

pub returns-then-card-ne-CARD : goal.returns-then-card-ne-CARD
returns-then-card-ne-CARD c = rw c.number.ensures (restore-stops _ _ _ _ c.if-card-ne-CARD.true)

pub hand_back-numbers-requires : goal.hand_back-numbers-requires
hand_back-numbers-requires c =
    c.if-card-ne-CARD.false

pub returns : goal.returns
returns c =
    restores-back _ _ _ _ (restore-reads _ _ c.if-card-ne-CARD.false) _ c.card_of-held.ensures _ _ _ c.restore-outcome.ensures _
    c.hand_back-numbers.ensures.0 _ c.hand_back-numbers.ensures.1
