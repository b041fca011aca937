-- The bytes are those of `message`, word by word. Assumes nothing.
use native.Mathlib.Omega.{arith}
use borrow.Author.Tests.{ne_eqb}
use Rattle.model.specs.Packets.{message}
use Rattle.words.proofs.ByteLaws.{bytes_of-four, bytes_high-two, bytes_high-four}
use Rattle.tlp.proofs.write64.bytes.Goals as goal

pub returns : goal.returns
unfolding message
returns c =
    let m = c.args.m in
    rw (c.to_be_bytes.ensures, c.to_be_bytes-2.ensures, c.to_be_bytes-3.ensures, c.to_le_bytes.ensures)
    (rw (ne_eqb m.upper 0 (omega arith), bytes_high-two, bytes_high-four m.upper, bytes_high-four m.address, bytes_of-four))
