use Rattle.words.proofs.Endian.{le-word32}
use Rattle.words.proofs.get.word32.Goals as goal

pub returns : goal.returns
returns c = cc (le-word32 c.args.s.now c.args.at)
