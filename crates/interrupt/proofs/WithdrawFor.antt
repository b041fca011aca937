-- A withdrawal by the code and by the definition. Assumes nothing.
use mathlib.Core.Path.{◌≡◌, sym, ap, ap₂, ◌∙◌}
use mathlib.Core.Bool.{Bool, true, false}
use mathlib.Core.List.{List, []}
use Prim.Native.Nat.{ℕ, ◌≤◌, ◌<◌}
use mir.Val.{bool_byte}
use Rattle.words.specs.Bits.{of_bool, clear_bit}
use Rattle.words.proofs.BitLaws.{flag_number}
use Rattle.model.specs.declared.Answer.TheVariants.{Refused, Value}
use Rattle.model.specs.declared.Card.{Card}
use Rattle.model.specs.declared.Mode.{Mode}
use Rattle.model.specs.declared.Profile.{Profile}
use Rattle.model.specs.World.{World, Endpoint, world_of, with_waiting}
use Rattle.model.specs.Vectors.{waits, vector_count, change_waiting}
use Rattle.model.specs.Release.{is_pin}
use Rattle.model.specs.Sound.{shape}
use Rattle.model.specs.Withdrawals.{mode_now}
use Rattle.model.specs.Calls.{withdraw, refused, accepted, performed}
use Rattle.model.proofs.Calls.WithdrawCalls.{pin-refused, vector-refused, withdraw-accepted}
use Rattle.vectors.specs.Changes.{Changes}
use Rattle.card.specs.Outcomes.{after}
use Rattle.card.specs.Running.{Running}
use Rattle.interrupt.specs.Raises.{fated}

-- a running card with MSI waiting bits w
module _ (card : Card) (t p : List ℕ) (k : Profile) (run : Running card t p k) (w : ℕ) (ew : card.function.waiting ≡ w) (v : ℕ) where
  abbrev on : World
  on = world_of card t p

  abbrev u : Endpoint
  u = on.endpoint

  mode-now : k.mode ≡ mode_now u
  mode-now = sym (rw (← run.shaped) (run.profiled.mode t))

  -- refused by a row of its own
  row-refused : (n : ℕ) → performed on (withdraw v) ≡ refused on n []
      → after (fated card (record { answer = Refused n; count = 0; waiting = w })) t p [] ≡ performed on (withdraw v)
  row-refused n e = ap (λ (x : ℕ). after (fated card (record { answer = Refused n; count = 0; waiting = x })) t p []) (sym ew) ∙ sym e

  -- 7
  pub withdraw-pin : is_pin k.mode ≡ true → after (fated card (record { answer = Refused 7; count = 0; waiting = w })) t p [] ≡ performed on (withdraw v)
  withdraw-pin e = row-refused 7 (pin-refused on v (ap is_pin (sym mode-now) ∙ e))

  module _ (no : is_pin k.mode ≡ false) where
    pin-not : is_pin (mode_now u) ≡ false
    pin-not = ap is_pin (sym mode-now) ∙ no

    count-now : vector_count k.mode k.shape ≡ vector_count (mode_now u) (shape u)
    count-now = ap₂ vector_count mode-now run.shaped

    -- 2
    pub withdraw-beyond : vector_count k.mode k.shape ≤ v
        → after (fated card (record { answer = Refused 2; count = 0; waiting = w })) t p [] ≡ performed on (withdraw v)
    withdraw-beyond h = row-refused 2 (vector-refused on v pin-not (rw count-now at h))

    pub withdraw-done : v < vector_count k.mode k.shape → (w' : ℕ) (p' : List ℕ) (b : Bool) → Changes clear_bit k.mode w p v w' p'
        → ((x : Endpoint) → b ≡ waits k.mode (with_waiting x w p) v)
        → after (fated card (record { answer = Value (bool_byte b); count = 0; waiting = w' })) t p' [] ≡ performed on (withdraw v)
    withdraw-done h w' p' b ch eb =
        (λ i.
        accepted (record { endpoint = (ch u ∙ ap₂ (λ (x : ℕ) (m : Mode). change_waiting clear_bit m (with_waiting u x p) v) (sym ew) mode-now) i; wire = card.wire })
        (Value ((flag_number b ∙ ap of_bool (eb u ∙ ap₂ (λ (x : ℕ) (m : Mode). waits m (with_waiting u x p) v) (sym ew) mode-now)) i)) [] [])
        ∙ sym (withdraw-accepted on v pin-not (rw count-now at h))
