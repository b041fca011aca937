use Rattle.capi_log.specs.Recording.{wrote_record}
use Rattle.capi_log.proofs.RecordingFor.{told_wrote}
use Rattle.capi_log.proofs.recording.append.Goals as goal

pub returns : goal.returns
unfolding wrote_record
returns c = told_wrote _ _ _ _ _ c.told.ensures c.record-logged.ensures
