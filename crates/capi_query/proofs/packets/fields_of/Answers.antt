use Rattle.capi_query.specs.Fields.{fields_of}
use Rattle.capi_query.proofs.packets.fields_of.Goals as goal

pub returns-in_default : goal.returns-in_default
unfolding fields_of
returns-in_default c = rw c.in_default.is c.no_packet.ensures

pub returns-in-Message : goal.returns-in-Message
unfolding fields_of
returns-in-Message c = rw (c.in-Some.is, c.in-Message.is) c.message_fields.ensures

pub returns-in-Wire : goal.returns-in-Wire
unfolding fields_of
returns-in-Wire c = rw (c.in-Some.is, c.in-Wire.is) c.wire_fields.ensures
