-- Whether the bytes are read as one array or one by one. Assumes nothing.
use Rattle.words.proofs.Endian.{le-word64, each-word64}
use Rattle.words.proofs.get.word64.Goals as goal

pub returns : goal.returns
returns c = cc (le-word64 c.args.s.now c.args.at, each-word64 c.args.s.now c.args.at)
