-- A line call by the code and by the definition. Assumes nothing.
use mathlib.Core.Path.{◌≡◌, ap, ◌∙◌}
use mathlib.Core.Bool.{Bool}
use mathlib.Core.List.{List}
use Prim.Native.Nat.{ℕ, ◌≤◌, ◌<◌}
use lib.ListN.{length}
use Rattle.words.specs.Writers.{Wrote}
use Rattle.model.specs.declared.Answer.TheVariants.{Done}
use Rattle.model.specs.declared.Card.{Card}
use Rattle.model.specs.declared.Function.{Function}
use Rattle.model.specs.declared.Profile.{Profile}
use Rattle.model.specs.World.{World, Endpoint, registers, world_of, function_of, with_line}
use Rattle.model.specs.Release.{wire_due}
use Rattle.model.specs.Sound.{shape}
use Rattle.model.specs.Calls.{line, performed}
use Rattle.model.proofs.Calls.WireCalls.{line-wire}
use Rattle.wire.specs.declared.Wiring.{Wiring}
use Rattle.wire.specs.declared.Wired.{Wired}
use Rattle.wire.specs.Wires.{wiring_of, owed_of, bytes_owed, size_of, with_line as Wires·withLine}
use Rattle.wire.proofs.WireLaws.{at_level, settled-line}
use Rattle.card.specs.declared.outcome.Outcome.{Outcome}
use Rattle.card.specs.Outcomes.{refused_with, accepted_with, after}
use Rattle.card.specs.Running.{Running, Wires}
use Rattle.card.proofs.WireOnly.{wire-short, wire-done}

-- the state w of the wire, and its state v after the line went to a level
module _ (card : Card) (t p out : List ℕ) (k : Profile) (run : Running card t p k) (w : Wiring) (wires : Wires card k w) (level : Bool) (v : Wired)
    (ev : v ≡ Wires·withLine w level) where
  abbrev on : World
  on = world_of card t p

  abbrev u : Endpoint
  u = on.endpoint

  abbrev due : Bool
  due = wire_due (shape u) level (registers u)

  wired : (v.wiring.wire ≡ due) × (v.owed ≡ owed_of card.wire due)
  wired =
      rw run.shaped at
      (at_level (wiring_of k.shape level card.wire (registers u)) v (wire_due k.shape level (registers u))
      (ev ∙ ap (λ (x : Wiring). Wires·withLine x level) (wires t) ∙ settled-line k.shape card.function.line card.wire level (registers u)))

  -- 6
  pub line-short : (n : ℕ) (r : Outcome) → n ≡ size_of v.owed → length out < n → r ≡ refused_with card 6 → after r t p out ≡ performed on (line level out)
  line-short = wire-short card t p (line level out) (with_line u level) due (line-wire on level out run.is_sound) v.owed wired.1

  pub line-done : (n at : ℕ) (o₁ : List ℕ) (g : Function) (r : Outcome) → n ≡ size_of v.owed → n ≤ length out
      → Wrote (bytes_owed v.owed card.function.requester w.pin) out at o₁
      → g ≡ function_of card.function.config card.function.sizes card.function.events card.function.requester level card.function.waiting
      → r ≡ accepted_with (record { function = g; wire = v.wiring.wire }) Done at → after r t p o₁ ≡ performed on (line level out)
  line-done n at o₁ g r en h a eg er =
      wire-done card t p (line level out) (with_line u level) due (line-wire on level out run.is_sound) v.owed wired.1 n w.pin at t p o₁
      (record { function = g; wire = v.wiring.wire }) r en h (ap (λ (x : Wiring). x.pin) (wires t)) a (rw (eg, wired.0)) er
