use Rattle.std.proofs.Common.{sym}
use borrow.Author.Tests.{eq-eqb, ne_eqb}
use Rattle.tlp.specs.Decoded.{first_length}
use Rattle.tlp.proofs.decode.first_length.Goals as goal
use Rattle.tlp.proofs.decode.first_length.Goals.{then-four_words, else-four_words}

pub returns : goal.returns
unfolding first_length
returns c =
    elim c.if-four_words.branch [
      | then-four_words w ↦
          rw (sym c.byte_at-four_words.ensures, eq-eqb _ 0x60 w.if-four_words.true, sym w.clipped-is) c.clipped.ensures.0
      | else-four_words w ↦
          rw (sym c.byte_at-four_words.ensures, ne_eqb _ 0x60 w.if-four_words.false, sym w.clipped-is) c.clipped.ensures.0
    ]
