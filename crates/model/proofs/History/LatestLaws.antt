-- The latest entry that says something decides, unless a reset came after it: by recursion, and in words. Nothing here knows of cards. Assumes nothing.
use mathlib.Core.Path.{◌≡◌, refl, ap, ◌∙◌}
use mathlib.Core.Bool.{Bool, true, false, cond}
use mathlib.Core.List.{List, [], ◌∷◌}
use mathlib.Core.Logic.{◌↔◌, ◌⊎◌, inl, inr}
use mathlib.Core.Option.{Option, none, some, get_or}
use Rattle.words.proofs.BoolLaws.{cond_elim}
use Rattle.model.specs.Since.{Since, Every}
use Rattle.model.proofs.History.SinceLaws.{SinceR, since-iff, since-now, since-later, every-nil, every-cons, every-head, every-tail}

-- `says` is what an entry says of a bit, `home` its value at a start and after a reset
module _ {A : Type 0} (says : A → Option Bool) (resets : A → Bool) (home : Bool) where
  abbrev pub latest_bit : List A → Bool
  latest_bit [] = home
  latest_bit (x ∷ past) = cond (resets x) home (get_or (says x) (latest_bit past))

  module _ (y : Bool) where
    abbrev Said : A → List A → Type 0
    Said x before = says x ≡ some y

    abbrev Silent : A → List A → Type 0
    Silent x before = says x ≡ none

    abbrev Idle : A → List A → Type 0
    Idle x before = (says x ≡ none) × (resets x ≡ false)

    abbrev Back : A → List A → Type 0
    Back x before = resets x ≡ true

    abbrev pub Holding : List A → Type 0
    Holding past = Since Said Idle past ⊎ ((home ≡ y) × Since Back Silent past) ⊎ ((home ≡ y) × Every Idle past)

    -- no entry both says something and resets
    module _ (apart : (x : A) → says x ≡ some y → resets x ≡ false) where
      of-said : (past : List A) → SinceR Said Idle past → latest_bit past ≡ y
      of-said [] h = elim h [ ]
      of-said (x ∷ past) (inl k) = rw (apart x k, k)
      of-said (x ∷ past) (inr k) = rw (k.0.1, k.0.0) (of-said past k.1)

      of-back : home ≡ y → (past : List A) → SinceR Back Silent past → latest_bit past ≡ y
      of-back e [] h = elim h [ ]
      of-back e (x ∷ past) (inl k) = rw k e
      of-back e (x ∷ past) (inr k) = rw k.0 (cond_elim (λ (b : Bool). b ≡ y) (resets x) (λ _. e) (λ _. of-back e past k.1))

      of-idle : home ≡ y → (past : List A) → Every Idle past → latest_bit past ≡ y
      of-idle e [] k = e
      of-idle e (x ∷ past) k = rw ((every-head Idle k).1, (every-head Idle k).0) (of-idle e past (every-tail Idle k))

      one_more : (x : A) (past : List A) → Idle x past → Holding past → Holding (x ∷ past)
      one_more x past o (inl k) = inl (since-later Said Idle o k)
      one_more x past o (inr (inl k)) = inr (inl (k.0, since-later Back Silent o.0 k.1))
      one_more x past o (inr (inr k)) = inr (inr (k.0, every-cons Idle o k.1))

      to : (past : List A) → latest_bit past ≡ y → Holding past
      to [] e = inr (inr (e, every-nil Idle))
      to (x ∷ past) e₀ = go (to past) (resets x) refl (says x) refl e₀
        where
          go : (latest_bit past ≡ y → Holding past) → (a : Bool) → resets x ≡ a → (b : Option Bool) → says x ≡ b
              → cond a home (get_or b (latest_bit past)) ≡ y → Holding (x ∷ past)
          go ih true ra b sb e = inr (inl (e, since-now Back Silent ra))
          go ih false ra (some z) sb e = inl (since-now Said Idle (sb ∙ ap some e))
          go ih false ra none sb e = one_more x past (sb, ra) (ih e)

      pub latest-iff : (past : List A) → (latest_bit past ≡ y) ↔ Holding past
      latest-iff past = (
        to past,
        elim [
          | inl k ↦ of-said past ((since-iff Said Idle past).0 k)
          | inr (inl k) ↦ of-back k.0 past ((since-iff Back Silent past).0 k.1)
          | inr (inr k) ↦ of-idle k.0 past k.1
        ],
      )
