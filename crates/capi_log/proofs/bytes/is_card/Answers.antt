use Rattle.capi_log.proofs.CrossingFor.{card_test}
use Rattle.capi_log.proofs.bytes.is_card.Goals as goal

pub returns : goal.returns
returns c = card_test _ _ c.unread.ensures
