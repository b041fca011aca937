use Rattle.call_log.proofs.FormatLaws.{le_bar}
use Rattle.call_log.proofs.recorder.bar_write_bytes.Goals as goal

pub returns : goal.returns
returns c = rw (c.to_le_bytes.ensures, c.to_le_bytes-2.ensures) (le_bar c.args.bar c.args.offset c.args.width c.args.value)
