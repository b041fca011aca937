-- The definition of bit 1. Assumes nothing.
use Rattle.std.proofs.Common.{refl}
use Rattle.words.specs.Bits.{bit}
use Rattle.image.proofs.get.Flags.wire.Goals as goal

pub returns : goal.returns
unfolding bit
returns c = refl
