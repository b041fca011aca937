use Rattle.words.specs.Bytes.{bytes_of}
use Rattle.call_log.specs.Logs.{bytes_in}
use Rattle.call_log.proofs.recorder.event_bytes.Goals as goal

pub returns : goal.returns
unfolding bytes_in bytes_of
returns c = rw c.to_le_bytes.ensures
