use Rattle.call_log.specs.Players.{player_of}
use Rattle.capi_log.specs.Crossing.{player_in}
use Rattle.capi_log.proofs.bytes.player_of.Goals as goal

pub returns : goal.returns
unfolding player_in
returns c =
    λ i. player_of (c.from.ensures i) (c.from-2.ensures i) (c.array_at.ensures i) (c.word64.ensures i)
