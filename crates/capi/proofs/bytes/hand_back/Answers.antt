-- The bytes stay beside a refusal, and are those of the card otherwise. Assumes nothing.
use Rattle.capi.proofs.CardFor.{over-refused, over-accepted}
use Rattle.capi.proofs.bytes.hand_back.Goals as goal

pub returns-then-numbers-ne0 : goal.returns-then-numbers-ne0
returns-then-numbers-ne0 c =
    (c.numbers_of-numbers.ensures, over-refused _ _ _ _ c.numbers_of-numbers.ensures c.if-numbers-ne0.true)

pub returns : goal.returns
returns c =
    (c.hand_out.ensures.0, over-accepted _ _ _ _ c.numbers_of-numbers.ensures c.if-numbers-ne0.false c.hand_out.ensures.1)
