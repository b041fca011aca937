-- The packet is copied. Assumes nothing.
use mathlib.Core.Path.{sym}
use Rattle.model.specs.Packets.{wire_message}
use Rattle.words.proofs.ByteLaws.{bytes_high-two}
use Rattle.tlp.proofs.decode.Level.put.Goals as goal

pub returns : goal.returns
unfolding wire_message
returns c =
    rw (bytes_high-two, sym c.code.ensures) (rw c.to_be_bytes.ensures at c.put_slice.ensures)
