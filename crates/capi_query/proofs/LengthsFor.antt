-- From the code's parts to the lengths told, one law for each way out. Assumes nothing.
use mathlib.Core.Path.{◌≡◌, refl, ap, ◌∙◌}
use mathlib.Core.List.{List}
use Prim.Native.Nat.{ℕ}
use lib.ListN.{length}
use borrow.Author.Tests.{eq-eqb, ne_eqb}
use Rattle.model.specs.declared.Card.{Card}
use Rattle.model.specs.Shape.{shape_of}
use Rattle.model.specs.declared.refusal.Refusal.{Refusal}
use Rattle.model.specs.Refusals.{number_of}
use Rattle.model.specs.Image.{restore_refusal}
use Rattle.model.proofs.RefusalLaws.{not_zero}
use Rattle.snapshot.specs.Reads.{Saved}
use Rattle.model.proofs.Calls.RestoreCalls as RestoreCalls
use Rattle.capi_query.specs.declared.lengths.Lengths as Code
use Rattle.std.specs.Prelude.{Ok}
use Rattle.capi_query.specs.Lengths.{Lengths, refused, told, told_of, lengths_of, config_lengths, image_refusal, image_lengths}

-- ---- a configuration

module _ (l : List ℕ) (r : Lengths) where
  pub other_length : (length l ≡ 256 → ⊥) → r ≡ refused 60 → r ≡ config_lengths l
  unfolding config_lengths
  other_length n q = rw (ne_eqb (length l) 256 n) q

pub config-told : (l : List ℕ) → length l ≡ 256 → (c : List ℕ) → c ≡ l → (k : Code.Lengths) → k ≡ told_of (shape_of c) → told (Ok k) ≡ config_lengths l
unfolding config_lengths lengths_of
config-told l h c e k q = rw (eq-eqb (length l) 256 h) (ap (λ (x : Code.Lengths). told (Ok x)) (q ∙ ap (λ (x : List ℕ). told_of (shape_of x)) e))

-- ---- an image: the checks of a restore

-- refused, whatever is lent
pub image_refused : (l : List ℕ) (why : Refusal) → ((t p : ℕ) → restore_refusal l t p ≡ number_of why) → refused (number_of why) ≡ image_lengths l
unfolding image_refusal image_lengths
image_refused l why h = rw (h _ _, ne_eqb (number_of why) 0 (not_zero why)) refl

pub image-told : (l : List ℕ) (card : Card) (n : ℕ) → Saved l card n → (k : Code.Lengths) → k ≡ told_of (shape_of card.function.config) → told (Ok k) ≡ image_lengths l
unfolding image_refusal image_lengths lengths_of
image-told l card n i k q =
    rw (RestoreCalls.none-refuses l _ _ (record { long = i.long; marked = i.image.0; version = i.image.1 }) i.saved refl refl)
    (ap (λ (x : Code.Lengths). told (Ok x)) (q ∙ ap (λ (c : Card). told_of (shape_of c.function.config)) i.is_card))
