-- Request [3]: a satisfied cause must not interrupt later. Assumes nothing.
use mathlib.Core.Path.{◌≡◌, refl, sym, ap, ap₂, ◌∙◌}
use mathlib.Core.Bool.{Bool, true, false, not, ◌&&◌, ◌||◌, true≢false, false≢true, and-false}
use mathlib.Core.List.{List, [], ◌∷◌}
use mathlib.Core.Logic.{◌↔◌, ◌⊎◌, inl, inr}
use mathlib.Core.Option.{some, none-ne-some}
use Prim.Native.Nat.{ℕ, ◌<◌}
use native.Mathlib.Omega.{arith}
use lib.Dec.{leb}
use borrow.Author.Tests.{eq-eqb}
use Rattle.words.specs.Lists.{first_of, member, count}
use Rattle.words.specs.Bits.{set_bit, clear_bit, of_bool}
use Rattle.words.proofs.BoolLaws.{by_test, cond_elim}
use Rattle.words.proofs.ListLaws.{member-keep}
use Rattle.model.specs.declared.Answer.TheVariants.{Value, Held}
use Rattle.model.specs.declared.Mode.{Mode}
use Rattle.model.specs.declared.Mode.TheVariants.{Pin, Msi, Msix}
use Rattle.model.specs.declared.Shape.{Shape}
use Rattle.model.specs.Answers.{refusal_of, is_accepted, event_code}
use Rattle.model.specs.Shape.{shape_of}
use Rattle.model.specs.World.{World, Endpoint, registers}
use Rattle.model.specs.Vectors.{mode_of, in_force, is_open, waits, change_waiting, vector_count, owed, vector_of}
use Rattle.model.specs.Release.{Raised, is_pin, raise_vector}
use Rattle.model.specs.Start.{Given}
use Rattle.model.specs.Sound.{sound, shape}
use Rattle.model.specs.Withdrawals.{mode_now, withdraw_rows, was_set}
use Rattle.model.specs.Calls.{Call, config_read, config_write, bar_read, bar_write, event, line, reset, save, withdraw, is_withdrawal, rows, next, changed, sends, answer_of}
use Rattle.model.specs.Calls.{refusal, Outcome, accepted, step, start_given, Operation, start, operate}
use Rattle.model.specs.Trials.{outcomes}
use Rattle.model.specs.Claims.{Withdrawn}
use Rattle.model.specs.Since.{Since, Every}
use Rattle.model.specs.History.{Entry, Past, Run, run, is_event_for, is_withdrawal_of, held_by, withdrawn_by, WaitsBy, WaitsStill}
use Rattle.model.proofs.Sound.SoundLaws.{is-sound}
use Rattle.model.proofs.Vectors.WaitingLaws.{InRange, only_registers, change_only, change_back, waits-set}
use Rattle.model.proofs.Vectors.SweepLaws.{force_refl}
use Rattle.model.proofs.Vectors.SettleLaws.{buffered}
use Rattle.model.proofs.Vectors.EventLaws.{vector_counted, event-settled}
use Rattle.model.proofs.Vectors.WithdrawLaws.{withdrawn_only, withdrawn-waits}
use Rattle.model.proofs.Calls.CallLaws.{step_elim, step-sound}
use Rattle.model.proofs.Calls.Effects.{event-below, vector_below, effect}
use Rattle.model.proofs.Calls.EventCalls.{raised_vector}
use Rattle.model.proofs.Calls.WithdrawCalls.{withdraw-accepted}
use Rattle.model.proofs.SoundKept.{effect_sound}
use Rattle.model.proofs.Refusals.{refusal-number, room_exact}
use Rattle.model.proofs.History.SinceLaws.{since_apart, since_same}
use Rattle.model.proofs.History.HistoryCalls.{idle-held, idle-withdrawn}
use Rattle.model.proofs.WaitingHistory.{withdrawal_history}

-- ---- refusals

-- "Refusal 2 for a vector at or above N (MSI: 2^Capable); new refusal 7 when the pin is in force, before 2": the first row that applies, 0 if none does
pub withdraw-refusal : (w : World) (v : ℕ)
    → let u : Endpoint = w.endpoint in
    refusal_of (step w (withdraw v)).answer
    ≡ first_of ((1, not (sound w)) ∷ (7, is_pin (mode_now u)) ∷ (2, leb (vector_count (mode_now u) (shape u)) v) ∷ [])
unfolding refusal rows withdraw_rows sends first_of
withdraw-refusal w v = refusal-number w (withdraw v)

-- it asks for no room
pub withdraw-room : (w : World) (v : ℕ) → refusal_of (step w (withdraw v)).answer ≡ 6 → ⊥
unfolding sends
withdraw-room w v e = let none = ((room_exact w (withdraw v)).0 e).1 in omega (arith, none)

-- ---- what an accepted withdrawal does

dropped : (a b c : Bool) → b ≡ true → c ≡ true → (a && not (b && c)) ≡ false
dropped a b c p q = rw (p, q, and-false)

kept : (a b : Bool) → b ≡ false → (a && not b) ≡ a
kept true b e = rw e
kept false b e = refl

-- "names a vector of the mechanism in force and clears its bit, saying whether it was set"
pub withdraw_exact : (w : World) (v : ℕ) → is_accepted (step w (withdraw v)).answer ≡ true → Withdrawn w v (step w (withdraw v))
unfolding next changed sends answer_of was_set in_force is_accepted
withdraw_exact w v =
    step_elim w (withdraw v) (λ (r : Outcome). is_accepted r.answer ≡ true → Withdrawn w v r)
    (λ p _.
    let only = withdrawn_only w.endpoint v in
    let waits-now = withdrawn-waits w.endpoint (is-sound w p.is_sound).endpoint v (vector_below w.endpoint v p.own) in
    record {
      says = refl;
      cleared = waits-now (mode_now w.endpoint) v ∙ dropped (waits (mode_now w.endpoint) w.endpoint v) _ _ (force_refl (mode_now w.endpoint)) (eq-eqb v v refl);
      others = λ m x e. waits-now m x ∙ kept (waits m w.endpoint x) _ e;
      registers = only_registers only;
      sizes = only.sizes;
      events = only.events;
      requester = only.requester;
      line = only.line;
      wire = refl;
      pending = only.pending_length;
      count = refl;
    })
    (λ n _ e. absurd (false≢true e))

-- ---- an event that was held, and then withdrawn

-- which event is held
held_only : (m : Mode) (s : Shape) (u : Endpoint) (v : ℕ) → (raise_vector m s u v).answer ≡ Held
    → (waits m u v ≡ false) × ((raise_vector m s u v).endpoint ≡ change_waiting set_bit m u v)
unfolding raise_vector event_code
held_only m s u v =
    cond_elim P (is_open m s (registers u) v) (λ _ e. absurd (let z : ◌≡◌ {A = ℕ} 1 2 = ap event_code e in omega arith))
    (λ _. cond_elim P (waits m u v) (λ _ e. absurd (let z : ◌≡◌ {A = ℕ} 3 2 = ap event_code e in omega arith)) (λ n _. (n, refl)))
  where
    P : Raised → Type 0
    P r = r.answer ≡ Held → (waits m u v ≡ false) × (r.endpoint ≡ change_waiting set_bit m u v)

module _ (w : World) (e : ℕ) (v : ℕ) (k : sound w ≡ true) (h : e < w.endpoint.function.events)
    (means : vector_of (mode_now w.endpoint) (shape w.endpoint) (registers w.endpoint) e ≡ some v) where
  abbrev u : Endpoint
  u = w.endpoint

  abbrev m : Mode
  m = mode_now w.endpoint

  -- the function while the vector waits
  abbrev u₁ : Endpoint
  u₁ = change_waiting set_bit m u v

  abbrev w₁ : World
  w₁ = record { endpoint = u₁; wire = w.wire }

  counted : v < vector_count m (shape u)
  counted = vector_counted m u e v (is-sound w k).endpoint h refl means

  range : InRange m u v
  range = buffered u (is-sound w k).endpoint.start m v counted

  same_shape : shape u₁ ≡ shape u
  same_shape = ap shape_of (change_only set_bit m u v).config

  same-mode : mode_now u₁ ≡ m
  same-mode = ap₂ mode_of same_shape (only_registers (change_only set_bit m u v))

  not-pin : (n : Mode) → vector_of n (shape u) (registers u) e ≡ some v → is_pin n ≡ false
  unfolding vector_of is_pin
  not-pin Pin q = absurd (none-ne-some v q)
  not-pin Msi q = refl
  not-pin Msix q = refl

  withdraws-back : waits m u v ≡ false → sound w₁ ≡ true → step w₁ (withdraw v) ≡ accepted w (Value 1) [] []
  unfolding of_bool
  withdraws-back n s₁ =
      step-sound w₁ (withdraw v) s₁
      ∙ withdraw-accepted w₁ v (ap is_pin same-mode ∙ not-pin m means) (rw (same-mode, same_shape) counted)
      ∙ (λ i.
      accepted (record { endpoint = (ap (λ (n : Mode). change_waiting clear_bit n u₁ v) same-mode ∙ change_back m u v range n) i; wire = w.wire })
      (Value ((ap (λ (n : Mode). of_bool (waits n u₁ v)) same-mode ∙ ap of_bool (waits-set m u v v range ∙ ap (λ (b : Bool). b || waits m u v) (eq-eqb v v refl))) i)) [] [])

-- "empties a masked channel, unmasks it, and gets a stale interrupt": an event that was held, and its vector withdrawn, leave card and buffers as they
-- were before the event, so that every list of calls gives what it had given without them
pub held-withdrawn : (w : World) (e : ℕ) (out : List ℕ) (v : ℕ)
    → vector_of (mode_now w.endpoint) (shape w.endpoint) (registers w.endpoint) e ≡ some v
    → (step w (event e out)).answer ≡ Held → step (step w (event e out)).world (withdraw v) ≡ accepted w (Value 1) [] []
unfolding next changed answer_of event_code
held-withdrawn w e out v means =
    step_elim w (event e out) (λ (r : Outcome). r.answer ≡ Held → step r.world (withdraw v) ≡ accepted w (Value 1) [] [])
    (λ p q.
    let u : Endpoint = w.endpoint in
    let h : e < u.function.events = event-below u e out p.own in
    let is = raised_vector (mode_now u) (shape u) u e refl v means in
    let held = held_only (mode_now u) (shape u) u v (sym (ap (λ (r : Raised). r.answer) is) ∙ q) in
    let after : next w (event e out) ≡ record { endpoint = change_waiting set_bit (mode_now u) u v; wire = w.wire } =
    event-settled w (is-sound w p.is_sound) e h ∙ (λ i. record { endpoint = (ap (λ (r : Raised). r.endpoint) is ∙ held.1) i; wire = w.wire }) in
    let s₁ = rw after at (effect_sound w p.is_sound (effect w (event e out) p)) in
    rw after (withdraws-back w e v p.is_sound h means held.0 s₁))
    (λ n _ q. absurd (let z : ◌≡◌ {A = ℕ} 0 2 = ap event_code q in omega arith))

pub as_if_never : (w : World) (e : ℕ) (out : List ℕ) (v : ℕ)
    → vector_of (mode_now w.endpoint) (shape w.endpoint) (registers w.endpoint) e ≡ some v
    → (step w (event e out)).answer ≡ Held
    → (rest : List Operation) → outcomes (step (step w (event e out)).world (withdraw v)).world rest ≡ outcomes w rest
as_if_never w e out v means q rest = ap (λ (r : Outcome). outcomes r.world rest) (held-withdrawn w e out v means q)

-- ---- every list of calls

-- a call is a withdrawal and no event, or it withdraws nothing
by_kind : (g : Given) (past : Past) (m : Mode) (v : ℕ) (c : Call)
    → ((is_withdrawal c ≡ true) × (is_event_for g past m v c ≡ false)) ⊎ (is_withdrawal_of g past m v c ≡ false)
unfolding is_event_for is_withdrawal_of
by_kind g past m v (config_read o n) = inr refl
by_kind g past m v (config_write o n x out) = inr refl
by_kind g past m v (bar_read b o n) = inr refl
by_kind g past m v (bar_write b o n x out) = inr refl
by_kind g past m v (event e out) = inr refl
by_kind g past m v (line level out) = inr refl
by_kind g past m v (reset out) = inr refl
by_kind g past m v (save out) = inr refl
by_kind g past m v (withdraw x) = inl (refl, refl)

module _ (g : Given) (m : Mode) (v : ℕ) (x : Entry) (before : Past) where
  never_both : withdrawn_by g m v x before ≡ true → held_by g m v x before ≡ true → ⊥
  never_both d h = go (by_kind g before m v x.call)
    where
      go : ((is_withdrawal x.call ≡ true) × (is_event_for g before m v x.call ≡ false)) ⊎ (is_withdrawal_of g before m v x.call ≡ false) → ⊥
      go (inl k) = true≢false (sym h ∙ idle-held g m v x before k.1)
      go (inr n) = true≢false (sym d ∙ idle-withdrawn g m v x before n)

  no-withdrawal : is_withdrawal x.call ≡ false → withdrawn_by g m v x before ≡ false
  no-withdrawal e = go (by_kind g before m v x.call)
    where
      go : ((is_withdrawal x.call ≡ true) × (is_event_for g before m v x.call ≡ false)) ⊎ (is_withdrawal_of g before m v x.call ≡ false)
          → withdrawn_by g m v x before ≡ false
      go (inl k) = absurd (true≢false (sym k.0 ∙ e))
      go (inr n) = idle-withdrawn g m v x before n

-- "A satisfied cause must not interrupt later": a vector that was withdrawn, and for which no event was held since, does not wait
pub no_stale : (w₀ : World) (config sizes : List ℕ) (events requester : ℕ)
    → is_accepted (operate w₀ (start config sizes events requester)).answer ≡ true
    → (calls : List Call) (m : Mode) (v : ℕ)
    → let g : Given = start_given w₀.endpoint config sizes events requester in
    let r : Run = run (operate w₀ (start config sizes events requester)).world calls in
    Since (λ x before. withdrawn_by g m v x before ≡ true) (λ x before. held_by g m v x before ≡ false) r.past
    → waits m r.world.endpoint v ≡ false
no_stale w₀ config sizes events requester a calls m v s =
    let g : Given = start_given w₀.endpoint config sizes events requester in
    let r : Run = run (operate w₀ (start config sizes events requester)).world calls in
    by_test (waits m r.world.endpoint v)
    (λ t.
    absurd (since_apart (λ x b d h. never_both g m v x b d h) (λ x b e k. true≢false (sym e ∙ k.1)) (λ x b n h. true≢false (sym h ∙ n)) r.past s
    ((withdrawal_history w₀ config sizes events requester a calls m v).0 t)))
    (λ t. t)

-- and what does not wait is not released
pub released_waits : (m : Mode) (s : Shape) (u : Endpoint) (v : ℕ) → waits m u v ≡ false → member v (owed m s u) ≡ false
unfolding owed
released_waits m s u v e =
    let vectors : List ℕ = count 0 (vector_count m s) in
    member-keep (λ x. is_open m s (registers u) x && waits m u x) vectors v
    ∙ ap (λ (b : Bool). b && member v vectors) (ap (λ (b : Bool). is_open m s (registers u) v && b) e ∙ and-false (is_open m s (registers u) v))

-- in a past without withdrawals the condition is document 01's: no accepted reset, and no call left the vector open
pub without_withdrawals : (g : Given) (m : Mode) (v : ℕ) (past : Past) → Every (λ x before. is_withdrawal x.call ≡ false) past
    → WaitsStill g m v past ↔ WaitsBy g m v past
without_withdrawals g m v past e = (
  since_same (λ x before. is_withdrawal x.call ≡ false) (λ x b _ k. (k.0, k.2)) past e,
  since_same (λ x before. is_withdrawal x.call ≡ false) (λ x b n k. (k.0, no-withdrawal g m v x b n, k.1)) past e,
)
