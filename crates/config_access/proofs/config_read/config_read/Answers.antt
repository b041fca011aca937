-- The frame. Assumes nothing.
use Rattle.card.proofs.CallsFor.{frame_refused, frame_core}
use Rattle.config_access.proofs.config_read.config_read.Goals as goal

pub returns-in_default : goal.returns-in_default
returns-in_default c = frame_refused _ _ _ _ _ c.in_default.ensures c.refuse.ensures

pub config_read_core-requires : goal.config_read_core-requires
config_read_core-requires c = c.in-Some.ensures.0

pub returns : goal.returns
returns c = frame_core c.in-Some.ensures.0 _ _ c.config_read_core.ensures
