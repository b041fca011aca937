-- The byte of the register that holds the bit. Assumes nothing.
use Rattle.words.specs.Bytes.{bit_at}
use Rattle.vectors.proofs.mode.config_bit.Goals as goal

pub returns : goal.returns
unfolding bit_at
returns c = c.bit.ensures
