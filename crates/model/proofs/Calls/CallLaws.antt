-- One law for each way out of a call of a running card, a start and a restore. Assumes nothing.
use mathlib.Core.Path.{◌≡◌, refl, ap, ◌∙◌}
use mathlib.Core.Bool.{true, false}
use mathlib.Core.List.{List}
use Prim.Native.Nat.{ℕ, ◌≤◌, ◌<◌}
use lib.Dec.{ltb, eqb}
use lib.ListN.{length}
use borrow.Author.Tests.{eqb-true, eq-eqb, ltb-false, lt-ltb, le-ltb}
use Rattle.words.specs.Lists.{first_of}
use Rattle.words.proofs.BoolLaws.{cond_elim}
use Rattle.model.specs.declared.Answer.{Answer}
use Rattle.model.specs.World.{World}
use Rattle.model.specs.Sound.{sound}
use Rattle.model.specs.Calls.{Call, Outcome, rows, next, sends, answer_of, output_of, accepted, refused, answered, if_room, performed, step}

-- ---- refused with a number, or accepted

module _ (n : ℕ) (a r : Outcome) where
  pub answered_elim : (P : Outcome → Type 0) → (n ≡ 0 → P a) → (eqb n 0 ≡ false → P r) → P (answered n a r)
  unfolding answered
  answered_elim P f g = cond_elim P (eqb n 0) (λ e. f (eqb-true n 0 e)) g

  pub answered_yes : n ≡ 0 → answered n a r ≡ a
  unfolding answered
  answered_yes e = rw (eq-eqb n 0 e)

  pub answered_no : eqb n 0 ≡ false → answered n a r ≡ r
  unfolding answered
  answered_no e = rw e

-- ---- 6, or accepted

module _ (w next : World) (answer : Answer) (bytes out : List ℕ) where
  pub room_elim : (P : Outcome → Type 0) → (length bytes ≤ length out → P (accepted next answer bytes out)) → P (refused w 6 out) → P (if_room w next answer bytes out)
  unfolding if_room
  room_elim P f r = cond_elim P (ltb (length out) (length bytes)) (λ _. r) (λ e. f (ltb-false (length out) (length bytes) e))

  pub room-short : length out < length bytes → if_room w next answer bytes out ≡ refused w 6 out
  unfolding if_room
  room-short h = rw (lt-ltb (length out) (length bytes) h)

  pub room_fits : length bytes ≤ length out → if_room w next answer bytes out ≡ accepted next answer bytes out
  unfolding if_room
  room_fits h = rw (le-ltb (length out) (length bytes) h)

-- ---- a call of a sound card

module _ (w : World) (c : Call) where
  -- refused by a row of its own
  pub performed-row : (n : ℕ) → first_of (rows w.endpoint c) ≡ n → eqb n 0 ≡ false → performed w c ≡ refused w n (output_of c)
  unfolding performed
  performed-row n e z =
      answered_no (first_of (rows w.endpoint c)) _ _ (ap (λ (k : ℕ). eqb k 0) e ∙ z) ∙ ap (λ (k : ℕ). refused w k (output_of c)) e

  -- no row of its own applies
  pub performed-room : first_of (rows w.endpoint c) ≡ 0 → performed w c ≡ if_room w (next w c) (answer_of w.endpoint c) (sends w c) (output_of c)
  unfolding performed
  performed-room e = answered_yes (first_of (rows w.endpoint c)) _ _ e

  pub performed-accepted : first_of (rows w.endpoint c) ≡ 0 → length (sends w c) ≤ length (output_of c)
      → performed w c ≡ accepted (next w c) (answer_of w.endpoint c) (sends w c) (output_of c)
  performed-accepted e h = performed-room e ∙ room_fits w (next w c) (answer_of w.endpoint c) (sends w c) (output_of c) h

  -- ---- a call of any card

  -- 1
  pub step_unsound : sound w ≡ false → step w c ≡ refused w 1 (output_of c)
  unfolding step
  step_unsound e = rw e

  pub step-sound : sound w ≡ true → step w c ≡ performed w c
  unfolding step
  step-sound e = rw e

  -- what an accepted call passed
  pub record Passed : Type 0 where
    pub is_sound : sound w ≡ true
    pub own : first_of (rows w.endpoint c) ≡ 0
    pub room : length (sends w c) ≤ length (output_of c)

  -- accepted, or refused
  pub step_elim : (P : Outcome → Type 0) → (Passed → P (accepted (next w c) (answer_of w.endpoint c) (sends w c) (output_of c)))
      → ((n : ℕ) → eqb n 0 ≡ false → P (refused w n (output_of c))) → P (step w c)
  unfolding step performed
  step_elim P a r =
      cond_elim P (sound w)
      (λ s.
      answered_elim (first_of (rows w.endpoint c)) _ _ P
      (λ e.
      room_elim w (next w c) (answer_of w.endpoint c) (sends w c) (output_of c) P
      (λ h. a (record { is_sound = s; own = e; room = h })) (r 6 refl))
      (λ e. r (first_of (rows w.endpoint c)) e))
      (λ _. r 1 refl)
