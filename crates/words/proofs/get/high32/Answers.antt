use Rattle.words.proofs.Endian.{be-high32}
use Rattle.words.proofs.get.high32.Goals as goal

pub returns : goal.returns
returns c = cc (be-high32 c.args.s.now c.args.at)
