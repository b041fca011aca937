-- A reset by the code and by the definition. Assumes nothing.
use mathlib.Core.Path.{◌≡◌, ap, ap₂, ◌∙◌}
use mathlib.Core.Bool.{Bool, false}
use mathlib.Core.List.{List}
use Prim.Native.Nat.{ℕ, ◌≤◌, ◌<◌}
use lib.ListN.{length}
use Rattle.words.specs.Writers.{Wrote}
use Rattle.model.specs.declared.Answer.TheVariants.{Done}
use Rattle.model.specs.declared.Card.{Card}
use Rattle.model.specs.declared.Function.{Function}
use Rattle.model.specs.declared.Profile.{Profile}
use Rattle.model.specs.World.{World, Endpoint, registers, world_of, endpoint_of}
use Rattle.model.specs.Start.{started}
use Rattle.model.specs.Calls.{reset, reset_endpoint, performed}
use Rattle.model.proofs.Calls.WireCalls.{reset-wire}
use Rattle.wire.specs.declared.Wired.{Wired}
use Rattle.wire.specs.declared.Wiring.{Wiring}
use Rattle.wire.specs.Wires.{wiring_of, owed_of, with_level, bytes_owed, size_of}
use Rattle.wire.proofs.WireLaws.{at_level}
use Rattle.card.specs.declared.outcome.Outcome.{Outcome}
use Rattle.card.specs.Outcomes.{refused_with, accepted_with, after}
use Rattle.card.specs.Running.{Wires}
use Rattle.card.proofs.WireOnly.{wire-short, wire-done}

-- the state w of the wire, and its state v when it is low
module _ (card : Card) (t p out : List ℕ) (k : Profile) (w : Wiring) (wires : Wires card k w) (v : Wired) (ev : v ≡ with_level w false) where
  abbrev on : World
  on = world_of card t p

  wired : (v.wiring.wire ≡ false) × (v.owed ≡ owed_of card.wire false)
  wired = at_level (wiring_of k.shape card.function.line card.wire (registers on.endpoint)) v false (ev ∙ ap (λ (x : Wiring). with_level x false) (wires t))

  -- 6
  pub reset-short : (n : ℕ) (r : Outcome) → n ≡ size_of v.owed → length out < n → r ≡ refused_with card 6 → after r t p out ≡ performed on (reset out)
  reset-short = wire-short card t p (reset out) (reset_endpoint on.endpoint) false (reset-wire on out) v.owed wired.1

  pub reset-done : (n at : ℕ) (o₁ t' p' : List ℕ) (g : Function) (r : Outcome) → n ≡ size_of v.owed → n ≤ length out
      → Wrote (bytes_owed v.owed card.function.requester w.pin) out at o₁
      → endpoint_of g t' p' ≡ started card.function.config card.function.sizes card.function.events card.function.requester
      → r ≡ accepted_with (record { function = g; wire = v.wiring.wire }) Done at → after r t' p' o₁ ≡ performed on (reset out)
  reset-done n at o₁ t' p' g r en h a eg er =
      wire-done card t p (reset out) (reset_endpoint on.endpoint) false (reset-wire on out) v.owed wired.1 n w.pin at t' p' o₁
      (record { function = g; wire = v.wiring.wire }) r en h (ap (λ (x : Wiring). x.pin) (wires t)) a
      (ap₂ (λ (u : Endpoint) (b : Bool). record { endpoint = u; wire = b }) eg wired.0) er
