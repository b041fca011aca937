-- The frame. Assumes nothing.
use Rattle.card.proofs.CallsFor.{frame_refused, frame_core}
use Rattle.interrupt.proofs.line.line.Goals as goal

pub returns-in_default : goal.returns-in_default
returns-in_default c = frame_refused _ _ _ _ _ c.in_default.ensures c.refuse.ensures

pub line_core-requires : goal.line_core-requires
line_core-requires c = c.in-Some.ensures

pub returns : goal.returns
returns c = frame_core c.in-Some.ensures.0 _ _ c.line_core.ensures
