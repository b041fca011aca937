-- Bit 0 is the remainder by 2. Assumes nothing.
use Rattle.std.proofs.Common.{sym}
use Rattle.words.proofs.BitLaws.{bit-zero}
use Rattle.image.proofs.get.Flags.line.Goals as goal

pub returns : goal.returns
returns c = sym (bit-zero _)
