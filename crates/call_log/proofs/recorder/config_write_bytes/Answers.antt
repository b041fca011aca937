use Rattle.call_log.proofs.FormatLaws.{le_config}
use Rattle.call_log.proofs.recorder.config_write_bytes.Goals as goal

pub returns : goal.returns
returns c = rw (c.to_le_bytes.ensures, c.to_le_bytes-2.ensures) (le_config c.args.offset c.args.width c.args.value)
