use Rattle.capi_log.proofs.CrossingFor.{other_player, stage_test}
use Rattle.capi_log.proofs.bytes.is_player.Goals as goal

pub returns-then-bytes-ne25 : goal.returns-then-bytes-ne25
returns-then-bytes-ne25 c = other_player _ c.if-bytes-ne25.true

pub returns : goal.returns
returns c = stage_test _ c.if-bytes-ne25.false
