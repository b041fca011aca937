-- An event for a vector or a withdrawal, and the card after it. Assumes nothing.
use Rattle.std.specs.Prelude.{◌≡◌, Bool, List, ℕ}
use Rattle.model.specs.declared.Answer.TheVariants.{Sent}
use Rattle.model.specs.declared.Card.{Card}
use Rattle.model.specs.declared.Function.{Function}
use Rattle.model.specs.declared.Mode.{Mode}
use Rattle.model.specs.declared.Profile.{Profile}
use Rattle.model.specs.declared.Shape.{Shape}
use Rattle.model.specs.World.{Endpoint, registers}
use Rattle.model.specs.Packets.{message_of}
use Rattle.model.specs.Release.{Raised}
use Rattle.card.specs.declared.outcome.Outcome.{Outcome}
use Rattle.card.specs.Outcomes.{accepted_with}
use Rattle.card.specs.Running.{Running, card_with}
use Rattle.interrupt.specs.declared.event.Fate.{Fate}

-- the vector is open: its message is sent, and nothing changes
abbrev pub sent_by : Mode → Shape → Endpoint → ℕ → Raised
sent_by m s u v = record { endpoint = u; bytes = message_of m s u.function.requester (registers u) v; answer = Sent }

-- what holds of every card with this configuration, this requester and these MSI waiting bits
abbrev pub each_card : (config : List ℕ) (requester waiting : ℕ) → (Card → Type 0) → Type 0
each_card config requester waiting P = (sizes : List ℕ) (events : ℕ) (line wire : Bool) → P (card_with config sizes events requester line waiting wire)

-- what holds of every running card with these parts
abbrev pub each_running : (config : List ℕ) (events requester waiting : ℕ) (t p : List ℕ) → Profile → (Card → Type 0) → Type 0
each_running config events requester waiting t p k P =
    (sizes : List ℕ) (line wire : Bool)
    → Running (card_with config sizes events requester line waiting wire) t p k → P (card_with config sizes events requester line waiting wire)

-- there is a running card with these parts
pub record SomeRunning (config : List ℕ) (events requester waiting : ℕ) (t p : List ℕ) (k : Profile) : Type 0 where
  pub sizes : List ℕ
  pub line : Bool
  pub wire : Bool
  pub runs : Running (card_with config sizes events requester line waiting wire) t p k

-- what holds of every running card with these waiting bits, whatever its table
abbrev pub each_waiting : (waiting : ℕ) (p : List ℕ) → Profile → (Card → List ℕ → Type 0) → Type 0
each_waiting waiting p k P = (card : Card) (t : List ℕ) → card.function.waiting ≡ waiting → Running card t p k → P card t

-- the card with the waiting bits that an event or a withdrawal left, its answer and its count
abbrev pub fated : Card → Fate → Outcome
fated card r =
    let f : Function = card.function in
    accepted_with (card_with f.config f.sizes f.events f.requester f.line r.waiting card.wire) r.answer r.count
