-- A refusal leaves the bytes; else the switch is written. Assumes nothing.
use mathlib.Core.Path.{sym, ◌∙◌}
use Rattle.capi_switch.proofs.CrossingFor.{stays, goes}
use Rattle.capi_switch.proofs.bytes.hand_back.Goals as goal

pub returns-then-number-ne0 : goal.returns-then-number-ne0
returns-then-number-ne0 c =
    let called = c.number_of-number.ensures in
    (called, stays _ _ _ _ called c.if-number-ne0.true)

pub returns : goal.returns
returns c =
    let called = c.number_of-number.ensures in
    (sym c.if-number-ne0.false ∙ called, goes _ _ _ _ _ called c.if-number-ne0.false c.put_switch.ensures)
