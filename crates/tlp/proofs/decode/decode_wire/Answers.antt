-- Each way out cites one law of `DecodeLaws`: by the code. Assumes nothing.
use Rattle.std.proofs.Common.{arith}
use Rattle.tlp.proofs.DecodeLaws.{code_low, code-high, code-assert, code-deassert}
use Rattle.tlp.proofs.decode.decode_wire.Goals as goal
use Rattle.tlp.proofs.decode.decode_wire.Goals.{in-32-to-35, in-36-to-39}

pub returns-in_default : goal.returns-in_default
returns-in_default c = code_low c.args.s.now (omega arith)

pub returns-in_default-2 : goal.returns-in_default-2
returns-in_default-2 c = code-high c.args.s.now (omega arith) (omega arith)

pub returns : goal.returns
returns c =
    let l = c.args.s.now in
    elim c.if-this-lt36.branch [
      | in-32-to-35 w ↦
          code-assert l (omega arith) (omega arith) _ c.high16-requester.ensures _ (omega arith) (rw w.pin-is at c.as_wire.ensures)
      | in-36-to-39 w ↦
          code-deassert l (omega arith) (omega arith) _ c.high16-requester.ensures _ (omega arith) (rw w.pin-is at c.as_wire.ensures)
    ]
