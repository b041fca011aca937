-- A shift and the remainder by 2 are the definition of a bit. Assumes nothing.
use mathlib.Core.Path.{refl}
use Rattle.words.specs.Bits.{bit}
use Rattle.words.proofs.bits.word_bit.Goals as goal

pub returns : goal.returns
unfolding bit
returns c = refl
