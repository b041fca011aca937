-- A record over an output of 40,976 bytes: it is never refused with 6, and the output's contents do not matter. Assumes nothing.
use mathlib.Core.Path.{◌≡◌, refl, sym, ap, ◌∙◌, subst}
use mathlib.Core.Bool.{true, false, not}
use mathlib.Core.List.{List, []}
use Prim.Native.Nat.{ℕ, ◌≤◌, ◌<◌}
use native.Mathlib.Omega.{arith}
use lib.Dec.{eqb}
use lib.ListN.{length, drop, replicate, length-replicate}
use lib.Seq.{take-append_seam}
use borrow.Author.Tests.{eqb-true, ne_eqb, not-false}
use Rattle.words.specs.Lists.{first_of}
use Rattle.words.proofs.BoolLaws.{by_test, passed, row-passes, row-refuses}
use Rattle.model.specs.declared.Answer.TheVariants.{Refused}
use Rattle.model.specs.Answers.{refusal_of}
use Rattle.model.specs.World.{World}
use Rattle.model.specs.Sound.{sound}
use Rattle.model.specs.Calls.{Call, Outcome, step, rows, next, changed, sends, answer_of, output_of, is_save, earlier_refusal, accepted, refused}
use Rattle.model.proofs.Calls.CallLaws.{step_unsound, step-sound, performed-row, performed-accepted}
use Rattle.model.proofs.Refusals.{room_exact}
use Rattle.model.proofs.BytesBound.{bytes_bound}
use Rattle.call_log.specs.declared.Record.{Record}
use Rattle.call_log.specs.declared.Record.TheVariants.{Event, Line, ConfigWrite, BarWrite, Reset}
use Rattle.call_log.specs.Logs.{call_of}
use Rattle.call_log.specs.Plays.{Performed}
use Rattle.call_log.specs.Cards.{shown, on_card, spare}

-- ---- what a record's call is: not a save, over the output lent to it, and all else does not depend on that output

pub record Lends (w : World) (out out' : List ℕ) (r : Record) : Type 0 where
  pub lent : output_of (call_of r out) ≡ out
  pub no_save : is_save (call_of r out) ≡ false
  pub earlier : earlier_refusal w (call_of r out) ≡ earlier_refusal w (call_of r out')
  pub next : next w (call_of r out) ≡ next w (call_of r out')
  pub sends : sends w (call_of r out) ≡ sends w (call_of r out')
  pub answer : answer_of w.endpoint (call_of r out) ≡ answer_of w.endpoint (call_of r out')

pub lends : (w : World) (out out' : List ℕ) (r : Record) → Lends w out out' r
unfolding call_of is_save earlier_refusal rows next changed sends answer_of
lends w out out' (Event e) = record { lent = refl; no_save = refl; earlier = refl; next = refl; sends = refl; answer = refl }
lends w out out' (Line level) = record { lent = refl; no_save = refl; earlier = refl; next = refl; sends = refl; answer = refl }
lends w out out' (ConfigWrite o n x) = record { lent = refl; no_save = refl; earlier = refl; next = refl; sends = refl; answer = refl }
lends w out out' (BarWrite b o n x) = record { lent = refl; no_save = refl; earlier = refl; next = refl; sends = refl; answer = refl }
lends w out out' Reset = record { lent = refl; no_save = refl; earlier = refl; next = refl; sends = refl; answer = refl }

-- ---- the two ways out of a call with room

pub roomy : (w : World) (c : Call) → earlier_refusal w c ≡ 0 → length (sends w c) ≤ length (output_of c)
    → step w c ≡ accepted (next w c) (answer_of w.endpoint c) (sends w c) (output_of c)
unfolding earlier_refusal
roomy w c e h =
    let p : (not (sound w) ≡ false) × (first_of (rows w.endpoint c) ≡ 0) = passed 1 (rows w.endpoint c) refl e in
    step-sound w c (not-false (sound w) p.0) ∙ performed-accepted w c p.1 h

pub refused_so : (w : World) (c : Call) → eqb (earlier_refusal w c) 0 ≡ false → step w c ≡ refused w (earlier_refusal w c) (output_of c)
unfolding earlier_refusal
refused_so w c e = by_test (sound w) is_sound unsound
  where
    own : ℕ
    own = first_of (rows w.endpoint c)

    unsound : sound w ≡ false → step w c ≡ refused w (earlier_refusal w c) (output_of c)
    unsound s = step_unsound w c s ∙ ap (λ (n : ℕ). refused w n (output_of c)) (sym (row-refuses 1 (rows w.endpoint c) (ap not s)))

    is_sound : sound w ≡ true → step w c ≡ refused w (earlier_refusal w c) (output_of c)
    is_sound s =
        let same : earlier_refusal w c ≡ own = row-passes 1 (rows w.endpoint c) (ap not s) in
        step-sound w c s ∙ performed-row w c own refl (ap (λ (n : ℕ). eqb n 0) (sym same) ∙ e) ∙ ap (λ (n : ℕ). refused w n (output_of c)) (sym same)

-- no record makes more than 40,976 bytes
fits_all : (w : World) (r : Record) (out : List ℕ) → earlier_refusal w (call_of r out) ≡ 0 → length (sends w (call_of r out)) ≤ 40976
fits_all w r out e =
    subst (λ (l : List ℕ). length l ≤ 40976) (lends w big out r).sends
    (subst (λ (o : Outcome). o.count ≤ 40976) (roomy w (call_of r big) ((lends w big out r).earlier ∙ e) large) (bytes_bound w (call_of r big) (lends w big out r).no_save))
  where
    big : List ℕ
    big = replicate (length (sends w (call_of r out))) 0

    large : length (sends w (call_of r big)) ≤ length (output_of (call_of r big))
    large = rw ((lends w big out r).lent, length-replicate {A = ℕ} (length (sends w (call_of r out))) 0, (lends w big out r).sends) (omega arith)

-- a record over an output of 40,976 bytes
module _ (w : World) (r : Record) (out : List ℕ) (l : length out ≡ 40976) where
  abbrev accepts : Performed World
  accepts = record { world = next w (call_of r out); answer = answer_of w.endpoint (call_of r out); bytes = sends w (call_of r out) }

  pub card_yes : earlier_refusal w (call_of r out) ≡ 0 → on_card out w r ≡ accepts
  unfolding on_card
  card_yes e =
      ap shown (roomy w (call_of r out) e (rw ((lends w out out r).lent, l) (fits_all w r out e)))
      ∙ ap (λ (b : List ℕ). record { world = next w (call_of r out); answer = answer_of w.endpoint (call_of r out); bytes = b })
      (take-append_seam (sends w (call_of r out)) (drop (length (sends w (call_of r out))) (output_of (call_of r out))))

  pub card_no : eqb (earlier_refusal w (call_of r out)) 0 ≡ false → on_card out w r ≡ record { world = w; answer = Refused (earlier_refusal w (call_of r out)); bytes = [] }
  unfolding on_card
  card_no e = ap shown (refused_so w (call_of r out) e)

-- the contents of the output do not matter
pub card-same : (out out' : List ℕ) → length out ≡ 40976 → length out' ≡ 40976 → (w : World) (r : Record) → on_card out w r ≡ on_card out' w r
card-same out out' l l' w r = by_test (eqb (earlier_refusal w (call_of r out)) 0) yes no
  where
    yes : eqb (earlier_refusal w (call_of r out)) 0 ≡ true → on_card out w r ≡ on_card out' w r
    yes z =
        let e : earlier_refusal w (call_of r out) ≡ 0 = eqb-true (earlier_refusal w (call_of r out)) 0 z in
        card_yes w r out l e
        ∙ (λ i. record { world = (lends w out out' r).next i; answer = (lends w out out' r).answer i; bytes = (lends w out out' r).sends i })
        ∙ sym (card_yes w r out' l' ((lends w out' out r).earlier ∙ e))

    no : eqb (earlier_refusal w (call_of r out)) 0 ≡ false → on_card out w r ≡ on_card out' w r
    no z =
        card_no w r out l z
        ∙ ap (λ (n : ℕ). record { world = w; answer = Refused n; bytes = [] }) (lends w out out' r).earlier
        ∙ sym (card_no w r out' l' (ap (λ (n : ℕ). eqb n 0) (lends w out' out r).earlier ∙ z))

-- 6 is no answer
pub card_never : (out : List ℕ) → length out ≡ 40976 → (w : World) (r : Record) → eqb (refusal_of (on_card out w r).answer) 6 ≡ false
unfolding on_card
card_never out l w r = ne_eqb (refusal_of (step w (call_of r out)).answer) 6 (λ e. fit ((room_exact w (call_of r out)).0 e))
  where
    fit : (earlier_refusal w (call_of r out) ≡ 0) × (length (output_of (call_of r out)) < length (sends w (call_of r out))) → ⊥
    fit p =
        let shorter : 40976 < length (sends w (call_of r out)) = subst (λ (n : ℕ). n < length (sends w (call_of r out))) (ap length (lends w out out r).lent ∙ l) p.1 in
        absurd (omega (arith, shorter, fits_all w r out p.0))

pub spare-length : length spare ≡ 40976
unfolding spare
spare-length = length-replicate {A = ℕ} 40976 0
