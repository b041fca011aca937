-- Each arm appends the bytes that its kind has. Assumes nothing.
use mathlib.Core.Path.{refl}
use Rattle.call_log.specs.Logs.{bytes_in}
use Rattle.call_log.proofs.FormatLaws.{append_record}
use Rattle.call_log.proofs.recorder.put_record.Goals as goal

pub returns-in-Reset : goal.returns-in-Reset
unfolding bytes_in
returns-in-Reset c = append_record _ _ c.in-Reset.is _ _ refl _ c.append-in-Reset.ensures
