-- A value read from the configuration has at most 32 bits. Assumes nothing.
use mathlib.Core.Path.{◌≡◌, ap, ◌∙◌}
use mathlib.Core.Bool.{true}
use mathlib.Core.List.{List, []}
use Prim.Native.Nat.{ℕ, ◌^◌, ◌≤◌, ◌<◌}
use native.Mathlib.Nat.{pow-le-pow_right}
use native.Mathlib.Omega.{arith}
use lib.ListN.{length}
use Rattle.words.specs.Bytes.{Bytes}
use Rattle.words.proofs.ByteLaws.{number_lt}
use Rattle.model.specs.declared.Card.{Card}
use Rattle.model.specs.Answers.{value_of}
use Rattle.model.specs.World.{World, Endpoint, world_of}
use Rattle.model.specs.Registers.{stored_zero}
use Rattle.model.specs.Sound.{shape, zero_bits}
use Rattle.model.specs.Calls as Calls
use Rattle.model.specs.Calls.{config_read, step}
use Rattle.model.proofs.Calls.AccessCalls.{config-value_elim}
use Rattle.model.proofs.Sound.SoundLaws.{is-sound}
use Rattle.registers.specs.Shown.{config_shown}
use Rattle.registers.proofs.AccessLaws.{config-access}
use Rattle.registers.proofs.ShownLaws.{value-shown, shown-lt, status_room}
use Rattle.card.specs.declared.outcome.Outcome.{Outcome}
use Rattle.card.specs.Outcomes.{after}
use Rattle.capi.specs.declared.bytes.Numbers.{Numbers}
use Rattle.capi.specs.Numbers.{numbers_of}

module _ (w : World) (b : Bytes w.endpoint.function.config) (h : length w.endpoint.function.config ≡ 256) where
  abbrev u : Endpoint
  u = w.endpoint

  abbrev shows : ℕ → ℕ
  shows = config_shown (shape u) u.function.line u.function.waiting u.function.config

  shown-small : zero_bits (stored_zero (shape u)) u.function.config ≡ true → (i : ℕ) → shows i < 256
  shown-small z =
      shown-lt (shape u) u.function.line u.function.waiting u.function.config b (status_room (shape u) u.function.config z (omega arith) (b 6))

  pub value-small : (o n : ℕ) → value_of (step w (config_read o n)).answer < 2 ^ 32
  value-small o n =
      config-value_elim (λ (x : ℕ). x < 2 ^ 32) w o n
      (λ k e.
      let m : 256 ^ n ≤ 256 ^ 4 = pow-le-pow_right (omega arith) (config-access o n e).1 in
      omega (arith, value-shown (shape u) u o n, number_lt shows o n (shown-small (is-sound w k).endpoint.config)))
      (omega arith)

-- the code's numbers n of the answer
pub number_small : (card : Card) (t p : List ℕ) (o k : ℕ) (r : Outcome) (n : Numbers) → Bytes card.function.config → length card.function.config ≡ 256
    → after r t p [] ≡ step (world_of card t p) (config_read o k) → n ≡ numbers_of r.answer → n.value < 2 ^ 32
number_small card t p o k r n b h q m =
    let e : n.value ≡ value_of (step (world_of card t p) (config_read o k)).answer = ap (λ (x : Numbers). x.value) m ∙ ap (λ (x : Calls.Outcome). value_of x.answer) q in
    omega (arith, value-small (world_of card t p) b h o k)
