-- Each way out cites one law of `DecodeLaws`: too short, the wire's packet, one address word, two. Assumes nothing.
use Rattle.tlp.proofs.DecodeLaws.{too_short, by-wire, by-short, by-long}
use Rattle.tlp.proofs.decode.decode.Goals as goal
use Rattle.tlp.proofs.decode.decode.Goals.{then-s-lt20, else-s-lt20}

pub returns-then-s-lt16 : goal.returns-then-s-lt16
returns-then-s-lt16 c = too_short c.args.s.now c.if-s-lt16.true

pub returns-then-s-eq52 : goal.returns-then-s-eq52
returns-then-s-eq52 c =
    by-wire c.args.s.now c.if-s-lt16.false _ c.if-s-eq52.true c.decode_wire.ensures

pub returns : goal.returns
returns c =
    let l = c.args.s.now in
    elim c.if-s-lt20.branch [
      | then-s-lt20 w ↦
          by-short l c.if-s-lt16.false _ c.if-s-eq52.false _ c.high16-requester.ensures w.if-s-lt20.true _ _
          w.high32.ensures w.word32.ensures (rw w.message-is at c.as_message.ensures)
      | else-s-lt20 w ↦
          by-long l c.if-s-lt16.false _ c.if-s-eq52.false _ c.high16-requester.ensures w.if-s-lt20.false _ _ _
          w.high32-else-s-lt20.ensures w.high32-else-s-lt20-2.ensures w.word32-else-s-lt20.ensures (rw w.message-is at c.as_message.ensures)
    ]
