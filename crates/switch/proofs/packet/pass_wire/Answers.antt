-- Each way out cites one law of `CallFor`: another device, or the changes. Assumes nothing.
use Rattle.switch.specs.Calls.{device_of}
use Rattle.switch.proofs.CallFor.{wire_device, wire_in}
use Rattle.switch.proofs.packet.pass_wire.Goals as goal

pub returns-then-w-ne0 : goal.returns-then-w-ne0
unfolding device_of
returns-then-w-ne0 c = wire_device _ _ _ _ _ c.if-w-ne0.true c.refuse.ensures

pub returns : goal.returns
unfolding device_of
returns c =
    wire_in _ _ _ _ _ _ c.if-w-ne0.false c.with_level-next.ensures c.send_changes.ensures
