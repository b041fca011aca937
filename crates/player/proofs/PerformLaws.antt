-- From the outcome of a record's call to what the bytes of the card are after it. Assumes nothing.
use mathlib.Core.Path.{◌≡◌, sym, ap, ◌∙◌}
use mathlib.Core.List.{List, []}
use Prim.Native.Nat.{ℕ}
use Rattle.model.specs.declared.Answer.{Answer}
use Rattle.model.specs.declared.Card.{Card}
use Rattle.model.specs.Answers.{refusal_of}
use Rattle.model.specs.World.{world_of}
use Rattle.model.specs.Image.{card_in}
use Rattle.model.specs.Calls.{step}
use Rattle.card.specs.declared.outcome.Outcome.{Outcome}
use Rattle.card.specs.Outcomes.{after}
use Rattle.capi.specs.Crossing.{card_over}
use Rattle.capi.proofs.CrossingFor.{over_alone}
use Rattle.call_log.specs.declared.Record.{Record}
use Rattle.call_log.specs.Logs.{call_of}
use Rattle.player.specs.Plays.{gave, gave_by, performed}

-- the record r gave the outcome o on the card that the bytes hold, with the later buffers t', p' and out'; o was handed back
pub performed_by : (card t p out : List ℕ) (r r' : Record) → r ≡ r' → (held : Card) → held ≡ card_in card
    → (o : Outcome) (t' p' out' : List ℕ) → after o t' p' out' ≡ step (world_of held t p) (call_of r' out)
    → (a : Answer) (n : ℕ) (card' : List ℕ)
    → (a ≡ o.answer) × (n ≡ o.count) × (card' ≡ card_over (refusal_of o.answer) card (world_of o.card [] []))
    → gave a card' t' p' out' n ≡ performed card t p r out
performed_by card t p out r r' e held d o t' p' out' q a n card' h =
    (λ i. gave (h.0 i) ((h.2 ∙ over_alone (refusal_of o.answer) card o.card t' p') i) t' p' out' (h.1 i))
    ∙ ap (gave_by card) (q ∙ ap (λ (k : Card). step (world_of k t p) (call_of r' out)) d)
    ∙ ap (λ (k : Record). performed card t p k out) (sym e)
