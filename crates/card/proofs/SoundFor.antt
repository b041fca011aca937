-- The check of a card: its function, then its wire. Assumes nothing.
use mathlib.Core.Path.{◌≡◌, refl, sym, ap, ◌∙◌}
use mathlib.Core.Bool.{Bool, true, false, beq}
use Rattle.std.specs.Prelude.{Option, Some, None, is_some}
use mathlib.Core.List.{List}
use Prim.Native.Nat.{ℕ, ◌≤◌}
use lib.ListN.{length}
use Rattle.model.specs.declared.Card.{Card}
use Rattle.model.specs.declared.Profile.{Profile}
use Rattle.model.specs.declared.Shape.{Shape}
use Rattle.model.specs.Fit.{Fit}
use Rattle.model.specs.World.{World, registers, world_of}
use Rattle.model.specs.Vectors.{command_bit}
use Rattle.model.specs.Release.{pin_number, wire_due}
use Rattle.model.specs.Shape.{shape_of}
use Rattle.model.specs.Sound.{shape, sound, sound_endpoint}
use Rattle.model.proofs.Sound.SoundLaws.{SoundEndpoint, is-sound}
use Rattle.model.proofs.Sound.SoundTests.{unsound_function, sound-wire}
use Rattle.model.proofs.Shapes.FitLaws.{sound_fit}
use Rattle.model.proofs.Vectors.SettleLaws.{ready, pin-small}
use Rattle.vectors.specs.Given.{regs, Profiled}
use Rattle.wire.specs.declared.Wiring.{Wiring}
use Rattle.wire.specs.Wires.{wiring, due_of}
use Rattle.wire.proofs.WireLaws.{wiring_is, due_is}
use Rattle.card.specs.declared.sound.Found.{Found}
use Rattle.card.specs.Running.{Running, Wires, Checks}

-- a function that is not sound
pub check_function : (card : Card) (t p : List ℕ) → sound_endpoint (shape_of card.function.config) (world_of card t p).endpoint ≡ false → sound (world_of card t p) ≡ false
check_function card t p n = unsound_function (world_of card t p) n

-- a sound one, what its configuration k says, and the small state v of the wire with the mechanism that is in force: the wire's level decides
module _ (card : Card) (t p : List ℕ) (k : Profile) (n : sound_endpoint (shape_of card.function.config) (world_of card t p).endpoint ≡ true)
    (shaped : k.shape ≡ shape_of card.function.config) (profiled : Profiled card.function.config k) (v : Wiring)
    (ev : (t : List ℕ)
    → v ≡ wiring card.function.line card.wire k.mode (pin_number (regs card.function.config t)) (command_bit (regs card.function.config t) 10))
    (due : Bool) (ed : due ≡ due_of v) where
  abbrev w : World
  w = world_of card t p

  wires-now : Wires card k v
  wires-now t =
      ev t
      ∙ wiring_is k.shape card.function.line card.wire (regs card.function.config t) k.mode _ _
      (sym (profiled.mode t)) refl refl

  level : due ≡ wire_due (shape w.endpoint) card.function.line (registers w.endpoint)
  level =
      ed ∙ ap due_of (wires-now t) ∙ due_is k.shape card.function.line card.wire (registers w.endpoint)
      ∙ ap (λ (s : Shape). wire_due s card.function.line (registers w.endpoint)) shaped

  is : beq card.wire due ≡ sound w
  is = ap (beq card.wire) level ∙ sym (sound-wire w n)

  pub check-level : beq card.wire due ≡ false → sound (world_of card t p) ≡ false
  check-level e = sym is ∙ e

  pub check-wire : beq card.wire due ≡ true → Running card t p k × Wires card k v
  check-wire e = (record { is_sound = sym is ∙ e; shaped = shaped; profiled = profiled }, wires-now)

-- ---- what a running card gives

module _ {card : Card} {t p : List ℕ} {k : Profile} (r : Running card t p k) where
  pub running-endpoint : SoundEndpoint (world_of card t p).endpoint
  running-endpoint = (is-sound (world_of card t p) r.is_sound).endpoint

  pub running_fit : Fit k.shape (length t) (length p)
  running_fit = rw r.shaped (sound_fit (world_of card t p) r.is_sound)

  pub running-pin : pin_number (registers (world_of card t p).endpoint) ≤ 4
  running-pin = pin-small _ (world_of card t p).endpoint (ready (world_of card t p).endpoint running-endpoint)

  pub wires-pin : (w : Wiring) → Wires card k w → w.pin ≤ 4
  wires-pin w h = rw (ap (λ (v : Wiring). v.pin) (h t)) running-pin

-- ---- whether anything was found

pub check-sound : (card : Card) (t p : List ℕ) (r : Option Found) → Checks card t p r → is_some r ≡ sound (world_of card t p)
check-sound card t p None h = sym h
check-sound card t p (Some k) h = sym h.0.is_sound
