use mathlib.Core.Path.{◌∙◌}
use Rattle.capi_query.proofs.FieldsFor.{message_unaligned, message-told}
use Rattle.capi_query.proofs.packets.message_fields.Goals as goal

pub returns-then-m-ne0 : goal.returns-then-m-ne0
returns-then-m-ne0 c = c.no_packet.ensures ∙ message_unaligned _ _ c.if-m-ne0.true

pub returns : goal.returns
returns c =
    message-told _ _ c.if-m-ne0.false _ _ c.from.ensures c.from-2.ensures
