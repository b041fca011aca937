-- A withdrawal: its refusals in their order, and what it does where none applies. Assumes nothing.
use mathlib.Core.Path.{◌≡◌, refl}
use mathlib.Core.Bool.{true, false}
use mathlib.Core.List.{[]}
use Prim.Native.Nat.{ℕ, ◌≤◌, ◌<◌}
use native.Mathlib.Omega.{arith}
use borrow.Author.Tests.{le-leb, lt-leb}
use Rattle.words.specs.Lists.{first_of}
use Rattle.words.specs.Bits.{of_bool, clear_bit}
use Rattle.model.specs.declared.Answer.TheVariants.{Value}
use Rattle.model.specs.World.{World, Endpoint}
use Rattle.model.specs.Vectors.{waits, change_waiting, vector_count}
use Rattle.model.specs.Release.{is_pin}
use Rattle.model.specs.Sound.{shape}
use Rattle.model.specs.Withdrawals.{mode_now, withdraw_rows, withdrawn, was_set}
use Rattle.model.specs.Calls.{withdraw, refused, accepted, rows, changed, next, sends, answer_of, performed}
use Rattle.model.proofs.Calls.CallLaws.{performed-row, performed-accepted}

module _ (u : Endpoint) (v : ℕ) where
  withdraw_seven : is_pin (mode_now u) ≡ true → first_of (rows u (withdraw v)) ≡ 7
  unfolding rows withdraw_rows first_of
  withdraw_seven p = rw p

  module _ (p : is_pin (mode_now u) ≡ false) where
    withdraw-two : vector_count (mode_now u) (shape u) ≤ v → first_of (rows u (withdraw v)) ≡ 2
    unfolding rows withdraw_rows first_of
    withdraw-two h = rw (p, le-leb (vector_count (mode_now u) (shape u)) v h)

    withdraw-passed : v < vector_count (mode_now u) (shape u) → first_of (rows u (withdraw v)) ≡ 0
    unfolding rows withdraw_rows first_of
    withdraw-passed h = rw (p, lt-leb (vector_count (mode_now u) (shape u)) v h)

module _ (w : World) (v : ℕ) where
  -- 7
  pub pin-refused : is_pin (mode_now w.endpoint) ≡ true → performed w (withdraw v) ≡ refused w 7 []
  pin-refused p = performed-row w (withdraw v) 7 (withdraw_seven w.endpoint v p) refl

  module _ (p : is_pin (mode_now w.endpoint) ≡ false) where
    -- 2
    pub vector-refused : vector_count (mode_now w.endpoint) (shape w.endpoint) ≤ v → performed w (withdraw v) ≡ refused w 2 []
    vector-refused h = performed-row w (withdraw v) 2 (withdraw-two w.endpoint v p h) refl

    pub withdraw-accepted : v < vector_count (mode_now w.endpoint) (shape w.endpoint)
        → let u : Endpoint = w.endpoint in
        performed w (withdraw v)
        ≡ accepted (record { endpoint = change_waiting clear_bit (mode_now u) u v; wire = w.wire }) (Value (of_bool (waits (mode_now u) u v))) [] []
    unfolding next changed sends answer_of withdrawn was_set
    withdraw-accepted h = performed-accepted w (withdraw v) (withdraw-passed w.endpoint v p h) (omega arith)
