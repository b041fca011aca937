use Rattle.call_log.specs.Stages.{stage_byte}
use Rattle.call_log.proofs.stages.U8FromStage.from.Goals as goal

pub returns-in-Header : goal.returns-in-Header
unfolding stage_byte
returns-in-Header c = rw c.in-Header.is

pub returns-in-Records : goal.returns-in-Records
unfolding stage_byte
returns-in-Records c = rw c.in-Records.is

pub returns-in-Again : goal.returns-in-Again
unfolding stage_byte
returns-in-Again c = rw c.in-Again.is

pub returns-in-Broken : goal.returns-in-Broken
unfolding stage_byte
returns-in-Broken c = rw c.in-Broken.is
