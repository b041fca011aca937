-- Each way out cites one law of `CallFor`: address bits, room, passed. Assumes nothing.
use Rattle.switch.proofs.CallFor.{room-short, room-done, message_bits, message_even}
use Rattle.switch.proofs.packet.pass_message.Goals as goal

pub returns-then-address-ne0 : goal.returns-then-address-ne0
returns-then-address-ne0 c = message_bits _ _ _ _ _ c.if-address-ne0.true c.refuse.ensures

pub returns-then-out-packet : goal.returns-then-out-packet
returns-then-out-packet c =
    message_even _ _ _ _ _ c.if-address-ne0.false (room-short _ _ _ _ _ c.if-out-packet.true c.refuse-then-out-packet.ensures)

pub returns : goal.returns
returns c =
    message_even _ _ _ _ _ c.if-address-ne0.false (room-done _ _ _ _ _ _ _ c.if-out-packet.false c.put_slice-count.ensures c.accepted.ensures)
