-- Demand 1: a refused call changes nothing, and lack of room is the reason exactly when nothing else is. Assumes nothing.
use mathlib.Core.Path.{◌≡◌, refl, sym, ap, ◌∙◌}
use mathlib.Core.Bool.{Bool, true, false, not, cond, true≢false}
use mathlib.Core.List.{List, [], ◌∷◌, ◌++◌}
use mathlib.Core.Logic.{◌↔◌}
use Prim.Native.Nat.{ℕ, ◌<◌}
use native.Mathlib.Omega.{arith}
use lib.Dec.{ltb, eqb}
use lib.ListN.{length}
use borrow.Author.Tests.{eqb-true, eqb-false, ltb-true, ltb-false, lt-ltb}
use Rattle.words.specs.Lists.{first_of, lacks}
use Rattle.words.proofs.BoolLaws.{by_test, first-append, first-lacks, row-passes, row-refuses}
use Rattle.model.specs.World.{World, Endpoint, card_of}
use Rattle.model.specs.Answers.{is_accepted, refusal_of, value_of}
use Rattle.model.specs.Sound.{sound}
use Rattle.model.specs.Start.{Given, start_refusal}
use Rattle.model.specs.Image.{restore_refusal}
use Rattle.model.specs.Withdrawals.{withdraw_rows}
use Rattle.model.specs.Claims.{Unchanged, AllZero, StartRefused}
use Rattle.model.specs.Calls.{Call, Outcome, config_read, config_write, bar_read, bar_write, event, line, reset, save, withdraw, Operation, call, start, restore, operate, answered}
use Rattle.model.specs.Calls.{rows, next, sends, answer_of, output_of, refusal, earlier_refusal, refused, step, start_of, restore_of, zero_world}
use Rattle.model.proofs.Calls.CallLaws.{answered_elim, room-short, room_fits, performed-row, performed-room, step_unsound, step-sound, step_elim}
use Rattle.model.proofs.Calls.AnswerLaws.{accepted-zero, answer-accepted}

-- ---- refused calls change nothing

refused_so : (w : World) (n : ℕ) (out : List ℕ) → Unchanged w out (refused w n out)
unfolding value_of
refused_so w n out = record { world = refl; output = refl; count = refl; value = refl }

-- a call of a running card
pub refused_unchanged : (w : World) (c : Call) → is_accepted (step w c).answer ≡ false → Unchanged w (output_of c) (step w c)
refused_unchanged w c =
    step_elim w c (λ (r : Outcome). is_accepted r.answer ≡ false → Unchanged w (output_of c) r)
    (λ _ e. absurd (true≢false (sym (answer-accepted w.endpoint c) ∙ e)))
    (λ n _ _. refused_so w n (output_of c))

-- a start hands out the card whose fields are all 0 and leaves the buffers
pub refused-start : (u : Endpoint) (g : Given) → is_accepted (start_of u g).answer ≡ false → Unchanged (zero_world u) [] (start_of u g)
unfolding start_of is_accepted
refused-start u g =
    answered_elim (start_refusal g) _ _ (λ (r : Outcome). is_accepted r.answer ≡ false → Unchanged (zero_world u) [] r)
    (λ _ e. absurd (true≢false e)) (λ _ _. refused_so (zero_world u) (start_refusal g) [])

-- its fields one by one
pub refused-start-zero : (u : Endpoint) (g : Given) → is_accepted (start_of u g).answer ≡ false → StartRefused u (start_of u g)
refused-start-zero u g e =
    let k = refused-start u g e in
    let card : AllZero (card_of (zero_world u)) = record { config = refl; sizes = refl; events = refl; requester = refl; line = refl; waiting = refl; wire = refl } in
    record {
      card = rw k.world card;
      table = ap (λ (w : World). w.endpoint.table) k.world;
      pending = ap (λ (w : World). w.endpoint.pending) k.world;
      count = k.count;
      value = k.value;
    }

-- a restore hands back the card that it was given
pub refused-restore : (w : World) (image : List ℕ) → is_accepted (restore_of w image).answer ≡ false → Unchanged w [] (restore_of w image)
unfolding restore_of is_accepted
refused-restore w image =
    answered_elim (restore_refusal image (length w.endpoint.table) (length w.endpoint.pending)) _ _
    (λ (r : Outcome). is_accepted r.answer ≡ false → Unchanged w [] r)
    (λ _ e. absurd (true≢false e)) (λ _ _. refused_so w _ [])

-- ---- the table of refusals

-- no row of a call's own has the number 0, which is no refusal, or 6, which is the last row
own_numbers : (u : Endpoint) (c : Call) → (lacks 0 (rows u c) ≡ true) × (lacks 6 (rows u c) ≡ true)
unfolding rows withdraw_rows lacks
own_numbers u (config_read o n) = (refl, refl)
own_numbers u (config_write o n x out) = (refl, refl)
own_numbers u (bar_read b o n) = (refl, refl)
own_numbers u (bar_write b o n x out) = (refl, refl)
own_numbers u (event e out) = (refl, refl)
own_numbers u (line level out) = (refl, refl)
own_numbers u (reset out) = (refl, refl)
own_numbers u (save out) = (refl, refl)
own_numbers u (withdraw v) = (refl, refl)

module _ (w : World) (c : Call) where
  abbrev short : Bool
  short = ltb (length (output_of c)) (length (sends w c))

  refusal_is : refusal w c ≡ cond (eqb (earlier_refusal w c) 0) (cond short 6 0) (earlier_refusal w c)
  unfolding refusal earlier_refusal first_of lacks
  refusal_is = first-append ((1, not (sound w)) ∷ rows w.endpoint c) ((6, short) ∷ []) (own_numbers w.endpoint c).0

  -- an earlier refusal is not 6
  not_six : eqb (earlier_refusal w c) 6 ≡ false
  unfolding earlier_refusal lacks
  not_six = first-lacks 6 ((1, not (sound w)) ∷ rows w.endpoint c) refl (own_numbers w.endpoint c).1

  -- the number that a call answers is that of the first row that applies
  pub refusal-number : refusal_of (step w c).answer ≡ refusal w c
  unfolding earlier_refusal refusal_of
  refusal-number = by_test (sound w) (λ e. by_test (eqb own 0) (λ z. passed e (eqb-true own 0 z)) (own_row e)) unsound
    where
      own : ℕ
      own = first_of (rows w.endpoint c)

      unsound : sound w ≡ false → refusal_of (step w c).answer ≡ refusal w c
      unsound e = rw (step_unsound w c e, refusal_is, row-refuses 1 (rows w.endpoint c) (ap not e))

      own_row : sound w ≡ true → eqb own 0 ≡ false → refusal_of (step w c).answer ≡ refusal w c
      own_row e z = rw (step-sound w c e, performed-row w c own refl z, refusal_is, row-passes 1 (rows w.endpoint c) (ap not e), z)

      passed : sound w ≡ true → own ≡ 0 → refusal_of (step w c).answer ≡ refusal w c
      passed e z =
          let first : earlier_refusal w c ≡ 0 = row-passes 1 (rows w.endpoint c) (ap not e) ∙ z in
          rw (step-sound w c e, performed-room w c z, refusal_is, first)
          (by_test short
          (λ t. rw (t, room-short w _ _ (sends w c) (output_of c) (ltb-true (length (output_of c)) (length (sends w c)) t)))
          (λ t.
          rw (t, room_fits w (next w c) (answer_of w.endpoint c) (sends w c) (output_of c) (ltb-false (length (output_of c)) (length (sends w c)) t))
          (accepted-zero (answer_of w.endpoint c) (answer-accepted w.endpoint c))))

  six : (n : ℕ) (t : Bool) → eqb n 6 ≡ false → cond (eqb n 0) (cond t 6 0) n ≡ 6 → (n ≡ 0) × (t ≡ true)
  six n t h e = by_test (eqb n 0) (λ z. (eqb-true n 0 z, long t (rw z at e))) (λ z. absurd (eqb-false n 6 h (rw z at e)))
    where
      long : (t : Bool) → ◌≡◌ {A = ℕ} (cond t 6 0) 6 → t ≡ true
      long true e = refl
      long false e = absurd (omega arith)

  -- refused with 6 exactly if no earlier row refuses and the call's bytes are longer than the output
  pub room_exact : (refusal_of (step w c).answer ≡ 6) ↔ ((earlier_refusal w c ≡ 0) × (length (output_of c) < length (sends w c)))
  room_exact = (
    λ e. let p = six (earlier_refusal w c) short not_six (sym refusal_is ∙ sym refusal-number ∙ e) in
        (p.0, ltb-true (length (output_of c)) (length (sends w c)) p.1),
    λ p. refusal-number ∙ refusal_is ∙ rw (p.0, lt-ltb (length (output_of c)) (length (sends w c)) p.1),
  )

-- ---- the numbers of a start and a restore

answered-number : (n : ℕ) (a r : Outcome) → refusal_of a.answer ≡ 0 → refusal_of r.answer ≡ n → refusal_of (answered n a r).answer ≡ n
answered-number n a r p q = answered_elim n a r (λ (o : Outcome). refusal_of o.answer ≡ n) (λ e. p ∙ sym e) (λ _. q)

pub start-number : (u : Endpoint) (g : Given) → refusal_of (start_of u g).answer ≡ start_refusal g
unfolding start_of refusal_of
start-number u g = answered-number (start_refusal g) _ _ refl refl

pub restore-number : (w : World) (image : List ℕ)
    → refusal_of (restore_of w image).answer ≡ restore_refusal image (length w.endpoint.table) (length w.endpoint.pending)
unfolding restore_of refusal_of
restore-number w image = answered-number (restore_refusal image (length w.endpoint.table) (length w.endpoint.pending)) _ _ refl refl

-- ---- no table has the number 60

lacks_sixty : (w : World) (c : Call) → lacks 60 ((1, not (sound w)) ∷ (rows w.endpoint c ++ ((6, ltb (length (output_of c)) (length (sends w c))) ∷ []))) ≡ true
unfolding rows withdraw_rows lacks
lacks_sixty w (config_read o n) = refl
lacks_sixty w (config_write o n x out) = refl
lacks_sixty w (bar_read b o n) = refl
lacks_sixty w (bar_write b o n x out) = refl
lacks_sixty w (event e out) = refl
lacks_sixty w (line level out) = refl
lacks_sixty w (reset out) = refl
lacks_sixty w (save out) = refl
lacks_sixty w (withdraw v) = refl

pub not_sixty : (w : World) (o : Operation) → eqb (refusal_of (operate w o).answer) 60 ≡ false
unfolding refusal start_refusal restore_refusal lacks
not_sixty w (call c) = ap (λ (n : ℕ). eqb n 60) (refusal-number w c) ∙ first-lacks 60 _ refl (lacks_sixty w c)
not_sixty w (start config sizes events requester) = ap (λ (n : ℕ). eqb n 60) (start-number _ _) ∙ first-lacks 60 _ refl refl
not_sixty w (restore image) = ap (λ (n : ℕ). eqb n 60) (restore-number w image) ∙ first-lacks 60 _ refl refl
