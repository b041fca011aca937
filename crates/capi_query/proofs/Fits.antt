-- The lengths told are those that a start and a restore ask of their lent buffers. A start has one row with the number 17; of a restore the checks
-- are gone through in their order, once for the refusal told and once for the restore over any buffers. Assumes nothing.
use mathlib.Core.Path.{◌≡◌, refl, sym, ap, ◌∙◌}
use mathlib.Core.Bool.{true, false, cond, ◌&&◌}
use mathlib.Core.List.{List, []}
use Prim.Native.Nat.{ℕ, ◌<◌}
use native.Mathlib.Omega.{arith}
use lib.Dec.{eqb, ltb}
use lib.ListN.{length, take}
use borrow.Author.Tests.{eq-eqb, eqb-true, eqb-false, ltb-true, ltb-false}
use Rattle.words.specs.Lists.{same}
use Rattle.words.specs.Bytes.{word16}
use Rattle.words.proofs.BoolLaws.{by_test, first_elim, row-passes, no_row}
use Rattle.model.specs.Shape.{shape_of, table_bytes, pending_bytes}
use Rattle.model.specs.World.{World}
use Rattle.model.specs.Answers.{refusal_of}
use Rattle.model.specs.Sound.{sound, shape}
use Rattle.model.specs.Claims.{Typed, SameRoom}
use Rattle.model.specs.Calls.{Outcome}
use Rattle.model.specs.Start.{Given, given, start_refusal, bad_buffers}
use Rattle.model.specs.Image.{mark, image_of, world_in, is_saved, restore_refusal}
use Rattle.model.proofs.Sound.SoundLaws.{accepts, buffers_fit}
use Rattle.model.proofs.Shapes.FitLaws.{sound_fit}
use Rattle.model.proofs.Refusals.{restore-number}
use Rattle.model.proofs.ImageExact.{reads-back, restored}
use Rattle.model.proofs.Calls.RestoreCalls as RestoreCalls
use Rattle.model.proofs.Calls.RestoreCalls.{IsImage, saved_sound, none-refuses}
use Rattle.capi_query.specs.Lengths.{Lengths, lengths, lengths_of, config_lengths, image_refusal, image_lengths}

-- ---- a start

-- the row 17 alone has that number
never_17 : (g : Given) → bad_buffers (shape_of g.config) g.table_length g.pending_length ≡ false → start_refusal g ≡ 17 → ⊥
unfolding start_refusal
never_17 g f =
    let P : ℕ → Type 0 = λ n. n ≡ 17 → ⊥ in
    first_elim P 10 _ _ (λ e. omega arith)
    (first_elim P 11 _ _ (λ e. omega arith)
    (first_elim P 12 _ _ (λ e. omega arith)
    (first_elim P 13 _ _ (λ e. omega arith)
    (first_elim P 14 _ _ (λ e. omega arith)
    (first_elim P 15 _ _ (λ e. omega arith)
    (first_elim P 16 _ _ (λ e. omega arith)
    (λ e. let z : ◌≡◌ {A = ℕ} 0 17 = sym (row-passes 17 [] f ∙ no_row) ∙ e in omega arith)))))))

-- over every configuration of 256 bytes: a start with buffers of exactly the lengths told is never refused with 17,
-- and a start that is accepted has buffers of exactly these lengths
pub start_fits : (config sizes : List ℕ) (events requester : ℕ) → length config ≡ 256
    → let told : Lengths = config_lengths config in
    (start_refusal (given config sizes events requester told.table told.pending) ≡ 17 → ⊥)
    × ((t p : ℕ) → start_refusal (given config sizes events requester t p) ≡ 0 → (t ≡ told.table) × (p ≡ told.pending))
unfolding config_lengths lengths_of bad_buffers
start_fits config sizes events requester h =
    let s = shape_of config in
    rw (eq-eqb (length config) 256 h) (
      never_17 (given config sizes events requester (table_bytes s) (pending_bytes s))
          (rw (eq-eqb (table_bytes s) (table_bytes s) refl, eq-eqb (pending_bytes s) (pending_bytes s) refl)),
      λ t p e. buffers_fit s t p (accepts (given config sizes events requester t p) e).buffers,
    )

-- ---- a restore

module _ (l : List ℕ) (t p : ℕ) where
  -- what a restore over buffers of t and p bytes answers, by the lengths told
  abbrev Fits : Type 0
  Fits =
      let told : Lengths = image_lengths l in
      restore_refusal l t p ≡ cond (eqb told.refusal 0) (cond (eqb t told.table && eqb p told.pending) 0 17) told.refusal

  -- 20, 21, 22
  both_refuse : (k : ℕ) → eqb k 0 ≡ false → image_refusal l ≡ k → restore_refusal l t p ≡ k → Fits
  unfolding image_lengths
  both_refuse k z e f = rw (e, z) (f ∙ rw z)

  -- 0, or 17 by the lengths
  saved_fits : IsImage l → is_saved l ≡ true → Fits
  unfolding image_refusal image_lengths lengths_of
  saved_fits i s =
      let w : World = world_in l in
      let fit = sound_fit w (saved_sound l s) in
      let zero : restore_refusal l (length w.endpoint.table) (length w.endpoint.pending) ≡ 0 = none-refuses l _ _ i s refl refl in
      rw (zero, ← fit.table, ← fit.pending)
      (by_test (eqb t (length w.endpoint.table))
      (λ a. by_test (eqb p (length w.endpoint.pending))
      (λ b. rw (a, b) (none-refuses l t p i s (eqb-true t _ a) (eqb-true p _ b)))
      (λ b. rw (a, b) (RestoreCalls.other-pending l t p i s (eqb-true t _ a) (eqb-false p _ b))))
      (λ a. rw a (RestoreCalls.other-table l t p i s (eqb-false t _ a))))

  marked_fits : ltb (length l) 294 ≡ false → same (take 3 l) mark ≡ true → Fits
  unfolding image_refusal
  marked_fits long m =
      by_test (eqb (word16 l 3) 1)
      (λ v. let i : IsImage l = record { long = ltb-false (length l) 294 long; marked = m; version = eqb-true (word16 l 3) 1 v } in
      by_test (is_saved l) (saved_fits i) (λ s. both_refuse 22 refl (RestoreCalls.not_saved l _ _ i s) (RestoreCalls.not_saved l t p i s)))
      (λ v. let other = eqb-false (word16 l 3) 1 v in let at = ltb-false (length l) 294 long in
      both_refuse 21 refl (RestoreCalls.other_version l _ _ at m other) (RestoreCalls.other_version l t p at m other))

-- of every image and any lengths of buffers: a restore refuses with the number told beside the image; where that is 0, it accepts buffers of
-- exactly the lengths told, and refuses others with 17
pub restore-fits : (image : List ℕ) (t p : ℕ)
    → let told : Lengths = image_lengths image in
    restore_refusal image t p ≡ cond (eqb told.refusal 0) (cond (eqb t told.table && eqb p told.pending) 0 17) told.refusal
unfolding image_refusal
restore-fits l t p =
    by_test (ltb (length l) 294)
    (λ h. let short : length l < 294 = ltb-true (length l) 294 h in
    both_refuse l t p 20 refl (RestoreCalls.too_short l _ _ short) (RestoreCalls.too_short l t p short))
    (λ h. by_test (same (take 3 l) mark) (marked_fits l t p h)
    (λ m. let long = ltb-false (length l) 294 h in both_refuse l t p 20 refl (RestoreCalls.no_mark l _ _ long m) (RestoreCalls.no_mark l t p long m)))

-- ---- a save

-- the image of a sound card is told with N and the lengths of the card's own buffers
pub saved_lengths : (w : World) → Typed w → sound w ≡ true
    → image_lengths (image_of w) ≡ lengths 0 (shape w.endpoint).msix.vectors (length w.endpoint.table) (length w.endpoint.pending)
unfolding image_lengths image_refusal lengths_of refusal_of
saved_lengths w t s =
    let image = image_of w in
    let fit = sound_fit w s in
    let room : SameRoom w w = record { table = refl; pending = refl } in
    let zero : restore_refusal image (length w.endpoint.table) (length w.endpoint.pending) ≡ 0 =
    sym (restore-number w image) ∙ ap (λ (r : Outcome). refusal_of r.answer) (restored w w t s room) in
    rw (reads-back w t s, zero, fit.table, fit.pending)
