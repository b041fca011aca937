-- 60 by a wrong length or a wide requester ID; else a fresh switch is written. Assumes nothing.
use Rattle.capi_switch.proofs.CrossingFor.{start-length, start-wide, start-done}
use Rattle.capi_switch.proofs.calls.musgarento_switch_start.Goals as goal

pub returns-then-state-ne10 : goal.returns-then-state-ne10
returns-then-state-ne10 c = start-length _ _ c.if-state-ne10.true

pub returns-then-requester-gt65535 : goal.returns-then-requester-gt65535
returns-then-requester-gt65535 c = start-wide _ _ c.if-state-ne10.false c.if-requester-gt65535.true

pub returns : goal.returns
returns c =
    start-done _ _ c.if-state-ne10.false c.if-requester-gt65535.false _ _ c.start-fresh.ensures c.put_switch.ensures
