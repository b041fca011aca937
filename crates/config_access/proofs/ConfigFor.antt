-- What a configuration write does to a sound card. Assumes nothing.
use mathlib.Core.Path.{◌≡◌, refl, sym, ap, ◌∙◌}
use mathlib.Core.Bool.{false}
use mathlib.Core.List.{List}
use Prim.Native.Nat.{ℕ, ◌+◌, ◌≤◌}
use Rattle.words.specs.Bytes.{bytes_of}
use Rattle.model.specs.declared.Card.{Card}
use Rattle.model.specs.declared.Function.{Function}
use Rattle.model.specs.declared.Mode.{Mode}
use Rattle.model.specs.declared.Profile.{Profile}
use Rattle.model.specs.Shape.{form_of}
use Rattle.model.specs.World.{Endpoint, registers, world_of, function_of, endpoint_of, with_registers}
use Rattle.model.specs.Registers.{writable, written, config_written}
use Rattle.model.specs.Vectors.{mode_of}
use Rattle.model.specs.Release.{pin_number}
use Rattle.model.specs.Sound.{shape}
use Rattle.model.specs.Calls.{config_write, bad_config, settle_of, performed}
use Rattle.model.proofs.Calls.Effects.{ready-config, pin-config, pin-written}
use Rattle.model.proofs.Calls.AccessCalls.{config-writes, config_passed}
use Rattle.model.proofs.Calls.SettleCalls.{config_settles}
use Rattle.registers.proofs.AccessLaws.{config-access}
use Rattle.vectors.specs.Given.{regs}
use Rattle.wire.specs.declared.Wiring.{Wiring}
use Rattle.card.specs.Running.{Running, Wires, Unsettled}
use Rattle.card.proofs.SoundFor.{running-endpoint, running_fit}
use Rattle.card.proofs.CallsFor.{core_settles}

module _ (card : Card) (t p : List ℕ) (k : Profile) (r : Running card t p k) (o n x : ℕ) (b : bad_config o n ≡ false) where
  abbrev u : Endpoint
  u = (world_of card t p).endpoint

  pub write_asks : (o + n ≤ 256) × (k.shape.msi.capable ≤ 5) × (k.form ≡ form_of k.shape)
  write_asks = ((config-access o n b).0, (running_fit r).shape.capable, r.profiled.form)

  -- the function f with the configuration c that the code wrote, and the mechanism m that is then in force
  module _ (c : List ℕ) (ec : c ≡ written (writable k.shape) card.function.config o (bytes_of n x)) (f : Function)
      (ef : f ≡ function_of c card.function.sizes card.function.events card.function.requester card.function.line card.function.waiting) where
    changed : endpoint_of f t p ≡ with_registers u (config_written (shape u) (registers u) o (bytes_of n x))
    changed = rw (ef, ec, r.shaped)

    pub write-unsettled : (w : Wiring) → Wires card k w → (m : Mode) → ((t : List ℕ) → m ≡ mode_of k.shape (regs f.config t))
        → Unsettled card f t p w (record { shape = k.shape; form = k.form; mode = m })
    write-unsettled w wires m em = record {
      ready = rw (changed, r.shaped) (ready-config u (running-endpoint r) o (bytes_of n x));
      profiled = record { fits = (running_fit r).shape; form = r.profiled.form; mode = λ t. sym (em t) };
      line = ap (λ (v : Wiring). v.line) (wires t) ∙ rw ef;
      wire = ap (λ (v : Wiring). v.wire) (wires t);
      pin = λ t. ap (λ (v : Wiring). v.pin) (wires t) ∙ pin-now t;
    }
      where
        pin-now : (t : List ℕ) → pin_number (regs card.function.config t) ≡ pin_number (regs f.config t)
        pin-now t =
            pin-config (regs card.function.config t) (registers u) refl ∙ sym (pin-written u (running-endpoint r) o (bytes_of n x))
            ∙ pin-config (config_written (shape u) (registers u) o (bytes_of n x)) (regs f.config t) (ap (λ (v : Endpoint). v.function.config) (sym changed))

    pub write-settles : (out : List ℕ) → settle_of (world_of card t p) k.shape (endpoint_of f t p) out ≡ performed (world_of card t p) (config_write o n x out)
    write-settles out =
        core_settles (world_of card t p) (config_write o n x out) (endpoint_of f t p) _ (config_settles (world_of card t p) o n x out) k.shape r.shaped changed
        (config_passed u o n (config_write o n x out) (config-writes x out) b)
