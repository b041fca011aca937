use Rattle.std.proofs.Common.{◌∙◌}
use borrow.Author.Tests.{ne_eqb}
use Rattle.capi_switch.proofs.CrossingFor.{other_length_lem, ten_bytes}
use Rattle.capi_switch.proofs.bytes.is_switch.Goals as goal

pub returns-then-bytes-eq10 : goal.returns-then-bytes-eq10
returns-then-bytes-eq10 c = ten_bytes _ _ c.if-bytes-eq10.true c.ports_clean.ensures

pub returns-else-bytes-eq10 : goal.returns-else-bytes-eq10
returns-else-bytes-eq10 c = ne_eqb _ 10 c.if-bytes-eq10.false ∙ other_length_lem _ c.if-bytes-eq10.false
