-- 6, or the message is written. Assumes nothing.
use mathlib.Core.Path.{refl, ap}
use Rattle.card.specs.Running.{card_with}
use Rattle.interrupt.specs.Raises.{fated}
use Rattle.interrupt.proofs.EventFor.{send_short, send_done}
use Rattle.interrupt.proofs.event.send.Goals as goal

pub returns-then-out-message_size : goal.returns-then-out-message_size
returns-then-out-message_size c =
    λ p z e l y.
    let f = c.args.card.now.function in
    send_short (card_with f.config z e f.requester l f.waiting y) _ p _ _ _ _ _ _ _ _ (c.vector_message-message.ensures _) c.message_size.ensures _
    c.if-out-message_size.true (ap (fated (card_with f.config z e f.requester l f.waiting y)) c.refused.ensures)

pub returns : goal.returns
returns c =
    λ p z e l y.
    let f = c.args.card.now.function in
    send_done (card_with f.config z e f.requester l f.waiting y) _ p _ _ _ _ _ _ _ _ (c.vector_message-message.ensures _) c.message_size.ensures _ _ _
    c.if-out-message_size.false c.put_vector_message-count.ensures refl
