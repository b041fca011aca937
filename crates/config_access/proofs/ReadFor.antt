-- What a configuration read gives of a sound card. Assumes nothing.
use mathlib.Core.Path.{◌≡◌, sym, ap, ◌∙◌}
use mathlib.Core.Bool.{false}
use mathlib.Core.List.{List, []}
use Prim.Native.Nat.{ℕ}
use Rattle.words.specs.Bytes.{number}
use Rattle.model.specs.declared.Answer.TheVariants.{Value}
use Rattle.model.specs.declared.Card.{Card}
use Rattle.model.specs.declared.Profile.{Profile}
use Rattle.model.specs.declared.Shape.{Shape}
use Rattle.model.specs.World.{Endpoint, world_of}
use Rattle.model.specs.Registers.{shown}
use Rattle.model.specs.Calls.{config_read, bad_config, performed}
use Rattle.model.proofs.Calls.AccessCalls.{config-value}
use Rattle.registers.specs.Shown.{config_shown, Readable}
use Rattle.registers.proofs.AccessLaws.{config-access}
use Rattle.registers.proofs.ShownLaws.{value-shown}
use Rattle.card.specs.declared.outcome.Outcome.{Outcome}
use Rattle.card.specs.Outcomes.{accepted_with, after}
use Rattle.card.specs.Running.{Running}
use Rattle.card.proofs.SoundFor.{running-endpoint, running_fit}

module _ (card : Card) (t p : List ℕ) (k : Profile) (r : Running card t p k) (o n : ℕ) (b : bad_config o n ≡ false) where
  pub read_asks : Readable card.function.config k.shape k.form o n
  read_asks = record {
    within = (config-access o n b).0;
    few = (config-access o n b).1;
    ends = (running_fit r).shape.msi;
    form = r.profiled.form;
    clean = rw r.shaped (running-endpoint r).config;
  }

  pub read_value : (x : ℕ) (a : Outcome) → x ≡ number (config_shown k.shape card.function.line card.function.waiting card.function.config) o n
      → a ≡ accepted_with card (Value x) 0 → after a t p [] ≡ performed (world_of card t p) (config_read o n)
  read_value x a ex ea =
      let u : Endpoint = (world_of card t p).endpoint in
      ap (λ (y : Outcome). after y t p []) ea
      ∙ ap (λ (y : ℕ). after (accepted_with card (Value y) 0) t p []) (ex ∙ value-shown k.shape u o n ∙ ap (λ (s : Shape). number (shown s u) o n) r.shaped)
      ∙ sym (config-value (world_of card t p) o n b)
