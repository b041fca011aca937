-- The bytes are those of `message`, word by word. Assumes nothing.
use Rattle.model.specs.Packets.{message}
use Rattle.words.proofs.ByteLaws.{bytes_of-four, bytes_high-two, bytes_high-four}
use Rattle.tlp.proofs.write32.bytes.Goals as goal

pub returns : goal.returns
unfolding message
returns c =
    rw (c.to_be_bytes.ensures, c.to_be_bytes-2.ensures, c.to_le_bytes.ensures, bytes_high-two, bytes_high-four, bytes_of-four)
