-- The length, then the flags. Assumes nothing.
use Rattle.capi.proofs.CardFor.{wrong_length, other_flags, no_other_flags}
use Rattle.std.proofs.lemmas.Bool.{not_from_false, not_from_true}
use Rattle.capi.proofs.bytes.readable.Goals as goal

pub returns-then-bytes-ne-CARD : goal.returns-then-bytes-ne-CARD
returns-then-bytes-ne-CARD c = wrong_length _ c.if-bytes-ne-CARD.true

pub returns-then-not-card_flags_clean : goal.returns-then-not-card_flags_clean
returns-then-not-card_flags_clean c =
    other_flags _ c.if-bytes-ne-CARD.false _ c.card_flags_clean.ensures (not_from_false _ c.if-not-card_flags_clean.true)

pub returns : goal.returns
returns c =
    no_other_flags _ c.if-bytes-ne-CARD.false _ c.card_flags_clean.ensures (not_from_true _ c.if-not-card_flags_clean.false)
