use Rattle.snapshot.proofs.RestoreFor.{card-held}
use Rattle.snapshot.proofs.held.held_card.Goals as goal

pub returns : goal.returns
returns c = card-held _ _ _ c.card_function-function.ensures c.wire.ensures
