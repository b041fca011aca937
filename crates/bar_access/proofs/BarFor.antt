-- The refusals of the calls that access a BAR of a sound card, and a read. Assumes nothing.
use mathlib.Core.Path.{◌≡◌, refl, sym, ap, ◌∙◌}
use mathlib.Core.Bool.{Bool, true, false, ◌||◌}
use mathlib.Core.List.{List, []}
use Prim.Native.Nat.{ℕ, ◌+◌, ◌%◌, ◌≤◌}
use lib.ListN.{length}
use Rattle.words.specs.Lists.{first_of}
use Rattle.words.specs.Bytes.{number}
use Rattle.model.specs.declared.Answer.TheVariants.{Value}
use Rattle.model.specs.declared.Card.{Card}
use Rattle.model.specs.declared.Profile.{Profile}
use Rattle.model.specs.declared.Shape.{Shape}
use Rattle.model.specs.Fit.{Fit}
use Rattle.model.specs.World.{Endpoint, registers, world_of, zero_function, endpoint_of}
use Rattle.model.specs.Vectors.{command_bit}
use Rattle.model.specs.Registers.{in_table, in_pending, bar_byte}
use Rattle.model.specs.Sound.{shape}
use Rattle.model.specs.Calls.{Call, bar_read, rows, output_of, bad_bar, performed}
use Rattle.model.proofs.Calls.AccessCalls as AccessCalls
use Rattle.model.proofs.Calls.AccessCalls.{BarAccess, bar-passed, bar-value}
use Rattle.registers.specs.Bounds.{Aligned}
use Rattle.registers.proofs.AccessLaws.{aligned, bar-access}
use Rattle.registers.proofs.BarLaws.{bar_value_buffers}
use Rattle.card.specs.declared.outcome.Outcome.{Outcome}
use Rattle.card.specs.Outcomes.{refused_with, accepted_with, after}
use Rattle.card.specs.Running.{Running}
use Rattle.card.proofs.SoundFor.{running_fit}
use Rattle.card.proofs.CallsFor.{core_row}

module _ (card : Card) (t p : List ℕ) (k : Profile) (r : Running card t p k) (b o n : ℕ) where
  abbrev u : Endpoint
  u = (world_of card t p).endpoint

  own : (x : Bool) → bad_bar k.shape b o n ≡ x → bad_bar (shape u) b o n ≡ x
  own x e = ap (λ (s : Shape). bad_bar s b o n) (sym r.shaped) ∙ e

  module _ (c : Call) (a : BarAccess b o n c) (y : Outcome) where
    -- 4
    pub bar_refused : bad_bar k.shape b o n ≡ true → y ≡ refused_with card 4 → after y t p (output_of c) ≡ performed (world_of card t p) c
    bar_refused e ey = core_row card t p c 4 y (AccessCalls.bar_refused u b o n c a (own true e)) refl ey

    -- 5
    pub bar-no-memory : bad_bar k.shape b o n ≡ false → command_bit (registers u) 1 ≡ false → y ≡ refused_with card 5
        → after y t p (output_of c) ≡ performed (world_of card t p) c
    bar-no-memory e m ey = core_row card t p c 5 y (AccessCalls.bar-no-memory u b o n c a (own false e) m) refl ey

  -- row 4 does not apply
  module _ (e : bad_bar k.shape b o n ≡ false) where
    pub bar-asks : Fit k.shape (length t) (length p) × Aligned k.shape × (o % 8 + n ≤ 8) × ((in_table k.shape b o || in_pending k.shape b o) ≡ true)
    bar-asks = let a = bar-access k.shape b o n e in (running_fit r, rw r.shaped (aligned card.function.config), a.0, a.1)

    -- nor row 5
    module _ (m : command_bit (registers u) 1 ≡ true) where
      pub bar-passes : (c : Call) → BarAccess b o n c → first_of (rows u c) ≡ 0
      bar-passes c a = bar-passed u b o n c a (own false e) m

      pub bar-read-value : (x : ℕ) (y : Outcome) → x ≡ number (bar_byte k.shape (endpoint_of zero_function t p) b) o n → y ≡ accepted_with card (Value x) 0
          → after y t p [] ≡ performed (world_of card t p) (bar_read b o n)
      bar-read-value x y ex ey =
          ap (λ (z : Outcome). after z t p []) ey
          ∙ ap (λ (z : ℕ). after (accepted_with card (Value z) 0) t p [])
          (ex ∙ bar_value_buffers k.shape (endpoint_of zero_function t p) u refl refl b o n ∙ ap (λ (s : Shape). number (bar_byte s u b) o n) r.shaped)
          ∙ sym (bar-value (world_of card t p) b o n (own false e) m)
