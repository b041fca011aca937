use Rattle.words.proofs.Endian.{le-word16}
use Rattle.words.proofs.get.word16.Goals as goal

pub returns : goal.returns
returns c = cc (le-word16 c.args.s.now c.args.at)
