use Rattle.words.proofs.Endian.{le_bytes-four}
use Rattle.words.proofs.bits.byte_of.Goals as goal

pub returns : goal.returns
returns c = cc (le_bytes-four c.args.x)
