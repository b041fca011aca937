use Rattle.words.proofs.Endian.{be-high16}
use Rattle.words.proofs.get.high16.Goals as goal

pub returns : goal.returns
returns c = cc (be-high16 c.args.s.now c.args.at)
