-- The recorder of request [1]: a recorded trial, played again, gives the same. Assumes nothing.
use mathlib.Core.Path.{◌≡◌, refl, sym, ap, subst, ◌∙◌}
use mathlib.Core.Bool.{true, false}
use mathlib.Core.List.{List, [], ◌∷◌}
use mathlib.Core.Option.{none, some}
use Prim.Native.Nat.{ℕ, ◌≤◌}
use native.Mathlib.Omega.{arith}
use lib.Dec.{eqb}
use lib.ListN.{length, drop}
use lib.Seq.{take-append_seam}
use borrow.Author.Tests.{eqb-true, eqb-false, ltb-true, ltb-false, not-false, not-true}
use lib.Dec.{ltb}
use Rattle.words.proofs.BoolLaws.{by_test}
use Rattle.model.specs.declared.Answer.TheVariants.{Refused}
use Rattle.model.specs.Answers.{refusal_of}
use Rattle.model.specs.World.{World}
use Rattle.model.specs.Calls.{Call, Outcome, config_read, config_write, bar_read, bar_write, event, line, reset, save, withdraw, no_withdrawal, step, next, sends, answer_of, output_of, earlier_refusal}
use Rattle.model.proofs.Refusals.{refused_unchanged, room_exact}
use Rattle.model.proofs.Calls.AnswerLaws.{not-accepted}
use Rattle.model.proofs.Calls.CallLaws.{step_elim}
use Rattle.call_log.specs.declared.Record.{Record}
use Rattle.call_log.specs.declared.Record.TheVariants.{Event, Line, ConfigWrite, BarWrite, Reset}
use Rattle.call_log.specs.Logs.{Fits, FitsIn, AllFit, no_more, one_more, call_of, record_of, bytes_in}
use Rattle.call_log.specs.Players.{fresh, between, counted}
use Rattle.call_log.specs.Cuttings.{Trial, preceded, whole_of}
use Rattle.call_log.specs.Cards.{shown, on_card, spare}
use Rattle.call_log.specs.Recorder.{is_kept, logged, ends_log, recorded_calls, logged_call, logged_all, log_of, log_told, is_recorded, given, numbered, left}
use Rattle.call_log.proofs.Room.{card_yes, card_no, roomy, refused_so, lends, spare-length}
use Rattle.call_log.proofs.Feeding.{feed, after-header}
use Rattle.call_log.proofs.LogEnds.{recorded_whole}

-- ---- a call that was not refused with 6 gives the same with 40,976 bytes of output

module _ (w : World) (r : Record) (out : List ℕ) (kept : is_kept (step w (call_of r out)).answer ≡ true) where
  abbrev c : Call
  c = call_of r out

  room : earlier_refusal w c ≡ 0 → length (sends w c) ≤ length (output_of c)
  unfolding is_kept
  room q =
      by_test (ltb (length (output_of c)) (length (sends w c)))
      (λ s.
      absurd (eqb-false (refusal_of (step w c).answer) 6 (not-true (eqb (refusal_of (step w c).answer) 6) kept)
      ((room_exact w c).1 (q, ltb-true (length (output_of c)) (length (sends w c)) s))))
      (λ s. ltb-false (length (output_of c)) (length (sends w c)) s)

  was_refused : eqb (earlier_refusal w c) 0 ≡ false → on_card spare w r ≡ shown (step w c)
  was_refused e =
      card_no w r spare spare-length (ap (λ (n : ℕ). eqb n 0) (lends w spare out r).earlier ∙ e)
      ∙ ap (λ (n : ℕ). record { world = w; answer = Refused n; bytes = [] }) (lends w spare out r).earlier
      ∙ ap shown (sym (refused_so w c e))

  was_accepted : earlier_refusal w c ≡ 0 → on_card spare w r ≡ shown (step w c)
  was_accepted q =
      card_yes w r spare spare-length ((lends w spare out r).earlier ∙ q)
      ∙ (λ i. record { world = (lends w spare out r).next i; answer = (lends w spare out r).answer i; bytes = (lends w spare out r).sends i })
      ∙ ap (λ (b : List ℕ). record { world = next w c; answer = answer_of w.endpoint c; bytes = b })
      (sym (take-append_seam (sends w c) (drop (length (sends w c)) (output_of c))))
      ∙ ap shown (sym (roomy w c q (room q)))

  pub room_free : on_card spare w r ≡ shown (step w c)
  room_free = by_test (eqb (earlier_refusal w c) 0) (λ e. was_accepted (eqb-true (earlier_refusal w c) 0 e)) was_refused

-- ---- one call of a recorded list, and the rest

-- reads and saves leave the card as it was
no_record : (w : World) (c : Call) → next w c ≡ w → (step w c).world ≡ w
no_record w c e = step_elim w c (λ (o : Outcome). o.world ≡ w) (λ _. e) (λ n z. refl)

-- and so does a call refused with 6
not-kept : (w : World) (c : Call) → is_kept (step w c).answer ≡ false → (step w c).world ≡ w
unfolding is_kept
not-kept w c e =
    let q : refusal_of (step w c).answer ≡ 6 = eqb-true (refusal_of (step w c).answer) 6 (not-false (eqb (refusal_of (step w c).answer) 6) e) in
    (refused_unchanged w c (not-accepted (step w c).answer (λ z. absurd (omega (arith, q, z))))).world

abbrev after : (number : ℕ) → World → List Call → Trial World
after n w cs = record { results = given w cs; player = between (numbered n w cs); world = left w cs }

-- the rest of the list is replayed from any card, as far as the log tells of it
module _ (n : ℕ) (w : World) (cs : World → List Call)
    (rest : (m : ℕ) (v : World) → whole_of (on_card spare) (between m) v (logged_all v (cs v)) ≡ after m v (cs v)) where
  abbrev Replays : Call → Type 0
  Replays c = whole_of (on_card spare) (between n) w (logged_all w (c ∷ cs (step w c).world)) ≡ after n w (c ∷ cs (step w c).world)

  skip : (c : Call) → is_recorded (record_of c) (step w c).answer ≡ false → logged_call (record_of c) (step w c).answer ≡ [] → (step w c).world ≡ w → Replays c
  unfolding logged_all given left numbered
  skip c e l q = rw (e, l, q) (rest n w)

  keep : (c : Call) (r : Record) → Fits r → is_recorded (record_of c) (step w c).answer ≡ true → logged_call (record_of c) (step w c).answer ≡ bytes_in r
      → on_card spare w r ≡ shown (step w c) → Replays c
  unfolding logged_all given left numbered
  keep c r h e l same =
      rw (e, l)
      (feed (on_card spare) w n (logged_all (step w c).world (cs (step w c).world)) r h
      ∙ rw same (ap (preceded (shown (step w c) ∷ [])) (rest (counted n) (step w c).world)))

  recorded : (r : Record) (out : List ℕ) → record_of (call_of r out) ≡ some r → Fits r → Replays (call_of r out)
  unfolding is_recorded logged_call logged
  recorded r out is h =
      by_test (is_kept (step w (call_of r out)).answer)
      (λ z. keep (call_of r out) r h (rw (is, z)) (rw (is, z)) (room_free w r out z))
      (λ z. skip (call_of r out) (rw (is, z)) (rw (is, z)) (not-kept w (call_of r out) z))

  unrecorded : (c : Call) → record_of c ≡ none → (step w c).world ≡ w → Replays c
  unfolding is_recorded logged_call
  unrecorded c is q = skip c (rw is) (rw is) q

  passed_over : (c : Call) → record_of c ≡ none → next w c ≡ w → Replays c
  passed_over c is e = unrecorded c is (no_record w c e)

  replay_one : (c : Call) → FitsIn (record_of c) → ends_log c (step w c).answer ≡ false → Replays c
  unfolding call_of record_of next ends_log
  replay_one (config_read o k) h e = passed_over (config_read o k) refl refl
  replay_one (config_write o k x out) h e = recorded (ConfigWrite o k x) out refl h
  replay_one (bar_read b o k) h e = passed_over (bar_read b o k) refl refl
  replay_one (bar_write b o k x out) h e = recorded (BarWrite b o k x) out refl h
  replay_one (event x out) h e = recorded (Event x) out refl h
  replay_one (line level out) h e = recorded (Line level) out refl h
  replay_one (reset out) h e = recorded Reset out refl h
  replay_one (save out) h e = passed_over (save out) refl refl
  replay_one (withdraw v) h e = unrecorded (withdraw v) refl (refused_unchanged w (withdraw v) e).world

replay_all : (cs : List Call) → AllFit cs → (n : ℕ) (w : World)
    → whole_of (on_card spare) (between n) w (logged_all w (recorded_calls w cs)) ≡ after n w (recorded_calls w cs)
unfolding whole_of logged_all given left numbered recorded_calls
replay_all [] no_more n w = refl
replay_all (c ∷ cs) (one_more h hs) n w =
    by_test (ends_log c (step w c).answer) (λ e. rw e) (λ e. rw e (replay_one n w (λ v. recorded_calls v cs) (replay_all cs hs) c h e))

-- The log of any list of calls, withdrawals among them, played from the card on which they were made: each record gives the answer and the packets
-- that its call gave, and card and buffers are those that the calls left, up to the first accepted withdrawal, which ends the log. Calls refused
-- with 6, reads and saves are not in the log
pub replays_told : (w : World) (calls : List Call) → AllFit calls
    → let told : List Call = recorded_calls w calls in
    whole_of (on_card spare) fresh w (log_told w calls) ≡ record { results = given w told; player = between (numbered 0 w told); world = left w told }
unfolding log_of log_told
replays_told w calls h = after-header (on_card spare) w (logged_all w (recorded_calls w calls)) ∙ replay_all calls h 0 w

-- The log of any list of calls, played from the card on which they were made: each record gives the answer and the packets that its call gave, and
-- card and buffers are those that the calls left. Calls refused with 6, reads and saves are not in the log
pub replays : (w : World) (calls : List Call) → no_withdrawal calls ≡ true → AllFit calls
    → whole_of (on_card spare) fresh w (log_of w calls) ≡ record { results = given w calls; player = between (numbered 0 w calls); world = left w calls }
unfolding log_told
replays w calls n h =
    subst
    (λ (l : List Call).
    whole_of (on_card spare) fresh w (log_of w l) ≡ record { results = given w l; player = between (numbered 0 w l); world = left w l })
    (recorded_whole w calls n) (replays_told w calls h)
