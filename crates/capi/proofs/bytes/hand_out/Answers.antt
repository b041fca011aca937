-- The card's bytes over those of the card before it, which are as long. Assumes nothing.
use Rattle.std.proofs.Common.{◌≡◌, length, rules}
use Rattle.capi.proofs.CardFor.{card-written}
use Rattle.capi.proofs.bytes.hand_out.Goals as goal

pub returns : goal.returns
returns c =
    let card = c.args.outcome.card in
    let six : length card.function.sizes ≡ 6 = search rules in
    let size : length card.function.config ≡ 256 = search rules in
    (c.numbers_of.ensures, card-written card c.args.bytes.now _ _ six size c.requires c.put_card.ensures)
