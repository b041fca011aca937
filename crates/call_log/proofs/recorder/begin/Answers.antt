use Rattle.call_log.specs.Logs.{header}
use Rattle.call_log.proofs.recorder.begin.Goals as goal

pub returns : goal.returns
unfolding header
returns c = c.append.ensures
