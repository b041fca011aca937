-- The frame. Assumes nothing.
use Rattle.card.proofs.CallsFor.{frame_refused, frame_core}
use Rattle.lifecycle.proofs.reset.reset.Goals as goal

pub returns-in_default : goal.returns-in_default
returns-in_default c = frame_refused _ _ _ _ _ c.in_default.ensures c.refuse.ensures

pub reset_core-requires : goal.reset_core-requires
reset_core-requires c = c.in-Some.ensures

pub returns : goal.returns
returns c = frame_core c.in-Some.ensures.0 _ _ c.reset_core.ensures
