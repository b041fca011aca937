-- What a call's frame hands to its core: a card that was found sound, and what was worked out in finding it so. Assumes nothing.
use Rattle.std.specs.Prelude.{◌≡◌, Bool, true, false, List, ℕ, Option, MatchOption}
use Rattle.model.specs.declared.Card.{Card}
use Rattle.model.specs.declared.Function.{Function}
use Rattle.model.specs.declared.Profile.{Profile}
use Rattle.model.specs.Shape.{shape_of}
use Rattle.model.specs.World.{function_of, endpoint_of, world_of}
use Rattle.model.specs.Release.{pin_number}
use Rattle.model.specs.Ready.{Ready}
use Rattle.model.specs.Sound.{sound}
use Rattle.vectors.specs.Given.{regs, Profiled}
use Rattle.wire.specs.declared.Wiring.{Wiring}
use Rattle.wire.specs.Wires.{wiring_of}
use Rattle.card.specs.declared.sound.Found.{Found}

-- a card by its parts
abbrev pub card_with : (config sizes : List ℕ) (events requester : ℕ) (line : Bool) (waiting : ℕ) (wire : Bool) → Card
card_with config sizes events requester line waiting wire = record { function = function_of config sizes events requester line waiting; wire = wire }

-- a sound card with lent buffers t and p, and k what its configuration says
pub record Running (card : Card) (t p : List ℕ) (k : Profile) : Type 0 where
  pub is_sound : sound (world_of card t p) ≡ true
  pub shaped : k.shape ≡ shape_of card.function.config
  pub profiled : Profiled card.function.config k

-- w is the small state of its wire, whatever the table holds
abbrev pub Wires : Card → Profile → Wiring → Type 0
Wires card k w = (t : List ℕ) → w ≡ wiring_of k.shape card.function.line card.wire (regs card.function.config t)

-- what the check of a card says: profile and wiring are found exactly of a sound one
abbrev pub Checks : (card : Card) (t p : List ℕ) → Option Found → Type 0
Checks card t p r =
    MatchOption r
    (sound (world_of card t p) ≡ false)
    (λ k. Running card t p k.profile × Wires card k.profile k.wiring)

-- a changed function f of the card before its wire and its open vectors send: k is what its configuration says now, w the wire's state before
pub record Unsettled (card : Card) (f : Function) (t p : List ℕ) (w : Wiring) (k : Profile) : Type 0 where
  pub ready : Ready k.shape (endpoint_of f t p)
  pub profiled : Profiled f.config k
  pub line : w.line ≡ f.line
  pub wire : w.wire ≡ card.wire
  pub pin : (t : List ℕ) → w.pin ≡ pin_number (regs f.config t)
