-- What the outcome of a call does not have, and which calls leave the card as it was. Assumes nothing.
use mathlib.Core.Path.{◌≡◌, refl, ap}
use mathlib.Core.Bool.{true, false, false≢true}
use mathlib.Core.List.{List, []}
use Prim.Native.Nat.{ℕ, ◌≤◌}
use native.Mathlib.Omega.{arith}
use lib.ListN.{length}
use borrow.Author.Tests.{eqb-false}
use Rattle.words.proofs.BitLaws.{of_bool-small}
use Rattle.model.specs.Answers.{refusal_of, is_accepted, value_of, event_code}
use Rattle.model.specs.World.{World, Endpoint}
use Rattle.model.specs.Sound.{sound}
use Rattle.model.specs.Image.{restore_refusal}
use Rattle.model.specs.Start.{Given, start_refusal}
use Rattle.model.specs.Vectors.{waits}
use Rattle.model.specs.Withdrawals.{mode_now, was_set}
use Rattle.model.specs.Calls.{Call, Outcome, config_read, bar_read, save, withdraw, next, sends, answer_of, step, start_of, restore_of}
use Rattle.model.proofs.Calls.CallLaws.{answered_elim, step_elim}
use Rattle.model.proofs.Calls.AnswerLaws.{has_value, is_event, answer-value, answer_code, answer-accepted}

module _ (w : World) (c : Call) where
  -- only a read and a withdrawal have a value
  pub no_value : has_value c ≡ false → value_of (step w c).answer ≡ 0
  unfolding value_of
  no_value k = step_elim w c (λ (r : Outcome). value_of r.answer ≡ 0) (λ _. answer-value w.endpoint c k) (λ _ _. refl)

  -- only an event has an event's answer
  pub no_code : is_event c ≡ false → event_code (step w c).answer ≡ 0
  unfolding event_code
  no_code k = step_elim w c (λ (r : Outcome). event_code r.answer ≡ 0) (λ _. answer_code w.endpoint c k) (λ _ _. refl)

  -- a call whose number is 0 is accepted
  pub zero-accepted : refusal_of (step w c).answer ≡ 0 → is_accepted (step w c).answer ≡ true
  unfolding refusal_of is_accepted
  zero-accepted =
      step_elim w c (λ (r : Outcome). refusal_of r.answer ≡ 0 → is_accepted r.answer ≡ true)
      (λ _ _. answer-accepted w.endpoint c) (λ n z e. absurd (eqb-false n 0 z e))

  -- and an accepted one was made on a sound card
  pub accepted-sound : is_accepted (step w c).answer ≡ true → sound w ≡ true
  unfolding is_accepted
  accepted-sound = step_elim w c (λ (r : Outcome). is_accepted r.answer ≡ true → sound w ≡ true) (λ p _. p.is_sound) (λ _ _ e. absurd (false≢true e))

-- ---- outcomes

-- neither a value nor an event's answer
pub record Plain (r : Outcome) : Type 0 where
  pub value : value_of r.answer ≡ 0
  pub event : event_code r.answer ≡ 0

pub plain-call : (w : World) (c : Call) → has_value c ≡ false → is_event c ≡ false → Plain (step w c)
plain-call w c r e = record { value = no_value w c r; event = no_code w c e }

-- of a world w: it stays, and there is neither an event's answer nor a count
pub record Reads (w : World) (r : Outcome) : Type 0 where
  pub world : r.world ≡ w
  pub event : event_code r.answer ≡ 0
  pub count : r.count ≡ 0

-- a call that changes nothing and sends nothing
idle-reads : (w : World) (c : Call) → next w c ≡ w → sends w c ≡ [] → is_event c ≡ false → Reads w (step w c)
unfolding event_code
idle-reads w c n b e =
    step_elim w c (Reads w)
    (λ _. record { world = n; event = answer_code w.endpoint c e; count = ap length b }) (λ _ _. record { world = refl; event = refl; count = refl })

pub reads-config : (w : World) (o n : ℕ) → Reads w (step w (config_read o n))
unfolding next sends
reads-config w o n = idle-reads w (config_read o n) refl refl refl

pub reads-bar : (w : World) (b o n : ℕ) → Reads w (step w (bar_read b o n))
unfolding next sends
reads-bar w b o n = idle-reads w (bar_read b o n) refl refl refl

pub save_stays : (w : World) (out : List ℕ) → (step w (save out)).world ≡ w
unfolding next
save_stays w out = step_elim w (save out) (λ (r : Outcome). r.world ≡ w) (λ _. refl) (λ _ _. refl)

-- a withdrawal answers 0 or 1, is no event and sends nothing
pub record Withdraws (r : Outcome) : Type 0 where
  pub value : value_of r.answer ≤ 1
  pub event : event_code r.answer ≡ 0
  pub count : r.count ≡ 0

pub withdraw-numbers : (w : World) (v : ℕ) → Withdraws (step w (withdraw v))
unfolding value_of event_code sends answer_of was_set
withdraw-numbers w v =
    step_elim w (withdraw v) Withdraws
    (λ _. record { value = of_bool-small (waits (mode_now w.endpoint) w.endpoint v); event = refl; count = refl })
    (λ _ _. record { value = omega arith; event = refl; count = refl })

-- a start and a restore have no count either
pub record Bare (r : Outcome) : Type 0 where
  pub plain : Plain r
  pub count : r.count ≡ 0

pub start-bare : (u : Endpoint) (g : Given) → Bare (start_of u g)
unfolding start_of value_of event_code
start-bare u g =
    answered_elim (start_refusal g) _ _ Bare
    (λ _. record { plain = record { value = refl; event = refl }; count = refl }) (λ _. record { plain = record { value = refl; event = refl }; count = refl })

pub restore-bare : (w : World) (image : List ℕ) → Bare (restore_of w image)
unfolding restore_of value_of event_code
restore-bare w image =
    answered_elim (restore_refusal image (length w.endpoint.table) (length w.endpoint.pending)) _ _ Bare
    (λ _. record { plain = record { value = refl; event = refl }; count = refl }) (λ _. record { plain = record { value = refl; event = refl }; count = refl })
