-- A start, and a reset, which is a start with the same shape. Assumes nothing.
use mathlib.Core.Path.{◌≡◌, refl, sym, ap, ap₂, ◌∙◌}
use mathlib.Core.Bool.{Bool, true, false}
use Prim.Native.Nat.{ℕ}
use Rattle.model.specs.declared.Mode.{Mode}
use Rattle.model.specs.declared.Shape.{Shape}
use Rattle.model.specs.Registers.{started_config, started_table}
use Rattle.model.specs.World.{Endpoint, Registers, registers}
use Rattle.model.specs.Vectors.{waits}
use Rattle.model.specs.Start.{Given, start_refusal, started}
use Rattle.model.specs.Sound.{given_of, sound, shape}
use Rattle.model.specs.Calls.{reset_endpoint}
use Rattle.model.specs.History.{Entry, Run, resets, start_registers, held_by, ended_by}
use Rattle.model.proofs.History.Machine.{bit_after}
use Rattle.model.proofs.Sound.StartLaws.{started-waits}
use Rattle.model.proofs.History.HistoryShape.{restart_by}
use Rattle.model.proofs.History.HistoryRegisters.{registers-reset}
use Rattle.model.proofs.History.HistoryCalls.{Good, entered, LawOf, soundness, shape_now}

pub started-registers : (g : Given) → registers (started g.config g.sizes g.events g.requester) ≡ start_registers g
unfolding started start_registers
started-registers g = refl

-- an accepted reset
pub resetting : (g : Given) → start_refusal g ≡ 0 → (m : Mode) (v : ℕ) (r : Run) → Good g r → (x : Entry) (wire : Bool)
    → sound (record { endpoint = reset_endpoint r.world.endpoint; wire = wire }) ≡ true
    → resets x ≡ true → held_by g m v x r.past ≡ false
    → LawOf g m v r (entered r x (record { endpoint = reset_endpoint r.world.endpoint; wire = wire }))
unfolding reset_endpoint started start_registers shape ended_by
resetting g ok m v r i x wire k e h = record {
  entry = x;
  longer = refl;
  good = record { is_sound = k; same = again ∙ sym (registers-reset g x r.past e) };
  wait =
      started-waits (given_of u) (soundness g r i).start m v
      ∙ sym (ap₂ (λ (a b : Bool). bit_after a (waits m u v) b) h cleared ∙ gone (waits m u v));
}
  where
    u : Endpoint
    u = r.world.endpoint

    cleared : ended_by g m v x r.past ≡ true
    cleared = rw e

    gone : (a : Bool) → bit_after false a true ≡ false
    gone true = refl
    gone false = refl

    again : registers (reset_endpoint u) ≡ start_registers g
    again = λ j. record {
      config = (ap₂ started_config (shape_now g r i ok) (ap (λ (q : Registers). q.config) i.same) ∙ restart_by g r.past) j;
      table = ap (λ (s : Shape). started_table s.msix.vectors) (shape_now g r i ok) j;
    }
