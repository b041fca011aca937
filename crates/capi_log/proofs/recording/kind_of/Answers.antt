use Rattle.capi_log.proofs.RecordingFor.{wide_kind}
use Rattle.capi_log.proofs.recording.kind_of.Goals as goal

pub returns-in_err-code : goal.returns-in_err-code
returns-in_err-code c = rw c.from_residual.ensures (wide_kind _ _ c.try_from.ensures c.in_err-code.ensures.value)
