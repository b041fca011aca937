-- Demand 2, images: a restore refuses with 22 exactly if length, mark and version are right and saving no sound card writes the image, over any
-- lent buffers. Assumes nothing.
use mathlib.Core.Path.{◌≡◌, refl, sym, ap, ◌∙◌}
use mathlib.Core.Bool.{true, false, not, true≢false}
use mathlib.Core.List.{List}
use Prim.Native.Nat.{ℕ, ◌≤◌}
use lib.Dec.{ltb, eqb}
use lib.ListN.{length, take}
use borrow.Author.Tests.{eq-eqb, eqb-true, eqb-false, le-ltb, ltb-false, not-false}
use Rattle.words.specs.Lists.{same, lacks}
use Rattle.words.specs.Bytes.{word16, Bytes}
use Rattle.words.proofs.BoolLaws.{neither, or_intro, and_intro, by_test, first-lacks, row_other, row-passes, row-refuses}
use Rattle.words.proofs.ListLaws.{same_true, same_refl}
use Rattle.model.specs.World.{World}
use Rattle.model.specs.Sound.{sound}
use Rattle.model.specs.Image.{mark, image_of, world_in, is_saved, restore_refusal}
use Rattle.model.specs.Claims.{SavedBy, RefusedIfUnsaved}
use Rattle.model.proofs.Refusals.{restore-number}
use Rattle.model.proofs.ImageExact.{reads-back, held_saved}

is-saved : (image : List ℕ) (v : World) → SavedBy image v → is_saved image ≡ true
unfolding is_saved
is-saved image v k =
    let held : world_in image ≡ v = ap world_in (sym k.bytes) ∙ reads-back v k.typed k.is_sound in
    and_intro (sound (world_in image)) (same (image_of (world_in image)) image)
    (ap sound held ∙ k.is_sound) (ap (λ (l : List ℕ). same l image) (ap image_of held ∙ k.bytes) ∙ same_refl image)

module _ (w : World) (image : List ℕ) (b : Bytes image) where
  abbrev number : ℕ
  number = restore_refusal image (length w.endpoint.table) (length w.endpoint.pending)

  by_number : number ≡ 22
      → (294 ≤ length image) × (take 3 image ≡ mark) × (word16 image 3 ≡ 1) × ((v : World) → SavedBy image v → ⊥)
  unfolding restore_refusal lacks
  by_number q =
      let r20 = row_other 20 22 _ refl q in
      let r21 = row_other 21 22 _ refl r20.1 in
      let n20 = neither (ltb (length image) 294) (not (same (take 3 image) mark)) r20.0 in
      let yes : is_saved image ≡ true → ⊥ = λ e. eqb-false _ 22 (first-lacks 22 _ refl refl) (sym (row-passes 22 _ (ap not e)) ∙ r21.1) in
      let no : is_saved image ≡ false = by_test (is_saved image) (λ e. absurd (yes e)) (λ e. e) in (
        ltb-false (length image) 294 n20.0,
        same_true (take 3 image) mark (not-false (same (take 3 image) mark) n20.1),
        eqb-true (word16 image 3) 1 (not-false (eqb (word16 image 3) 1) r21.0),
        λ v k. true≢false (sym (is-saved image v k) ∙ no),
      )

  to_number : (294 ≤ length image) → take 3 image ≡ mark → word16 image 3 ≡ 1 → ((v : World) → SavedBy image v → ⊥) → number ≡ 22
  unfolding restore_refusal
  to_number h m v none =
      let no : is_saved image ≡ false = by_test (is_saved image) (λ e. absurd (none (world_in image) (held_saved image b h e))) (λ e. e) in
      row-passes 20 _
      (or_intro (ltb (length image) 294) (not (same (take 3 image) mark)) (le-ltb (length image) 294 h)
      (ap (λ (l : List ℕ). not (same l mark)) m ∙ ap not (same_refl mark)))
      ∙ row-passes 21 _ (ap not (eq-eqb (word16 image 3) 1 v)) ∙ row-refuses 22 _ (ap not no)

  pub image_refused : RefusedIfUnsaved w image
  image_refused = (λ e. by_number (sym (restore-number w image) ∙ e), λ p. restore-number w image ∙ to_number p.0 p.1 p.2 p.3)
