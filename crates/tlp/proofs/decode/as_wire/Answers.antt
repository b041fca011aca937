-- The bytes are compared with those that the writer makes of the fields. Assumes nothing.
use Rattle.std.proofs.Common.{◌∙◌}
use Rattle.tlp.proofs.DecodeLaws.{wire_compared}
use Rattle.tlp.proofs.decode.as_wire.Goals as goal

pub returns : goal.returns
returns c = c.then_some.ensures ∙ wire_compared c.args.s.now c.args.l _ _ _ _ c.put-n.ensures c.same.ensures
