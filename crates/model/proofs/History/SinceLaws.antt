-- "At some entry, and at every later one" by recursion on the past. Assumes nothing.
use mathlib.Core.Path.{◌≡◌, refl, ap}
use mathlib.Core.List.{List, [], ◌∷◌, ◌++◌, nil≢cons, head-eq_of_cons-eq, tail-eq_of_cons-eq}
use mathlib.Core.Logic.{◌↔◌, ◌⊎◌, inl, inr}
use Rattle.model.specs.Since.{Place, Since, Every}

module _ {A : Type 0} where
  abbrev pub SinceR : (P Q : A → List A → Type 0) → List A → Type 0
  SinceR P Q [] = ⊥
  SinceR P Q (x ∷ past) = P x past ⊎ (Q x past × SinceR P Q past)

  no_place : Place {A = A} [] → ⊥
  no_place q = go q.later q.whole
    where
      go : (l : List A) → [] ≡ l ++ (q.entry ∷ q.before) → ⊥
      go [] e = nil≢cons e
      go (y ∷ l) e = nil≢cons e

  module _ (P Q : A → List A → Type 0) where
    pub since-now : {x : A} {past : List A} → P x past → Since P Q (x ∷ past)
    since-now {x} {past} p = record {
      at = record { later = []; entry = x; before = past; whole = refl };
      was = p;
      after = λ q. absurd (no_place q);
    }

    pub since-later : {x : A} {past : List A} → Q x past → Since P Q past → Since P Q (x ∷ past)
    since-later {x} {past} q s = record {
      at = record { later = x ∷ s.at.later; entry = s.at.entry; before = s.at.before; whole = ap (λ l. x ∷ l) s.at.whole };
      was = s.was;
      after = λ p. go p p.later p.whole;
    }
      where
        go : (p : Place (x ∷ s.at.later)) (l : List A) → x ∷ s.at.later ≡ l ++ (p.entry ∷ p.before)
            → Q p.entry (p.before ++ (s.at.entry ∷ s.at.before))
        go p [] e = rw (← head-eq_of_cons-eq e, ← tail-eq_of_cons-eq e, ← s.at.whole) q
        go p (y ∷ l) e = s.after (record { later = l; entry = p.entry; before = p.before; whole = tail-eq_of_cons-eq e })

    of : (past : List A) → SinceR P Q past → Since P Q past
    of [] h = elim h [ ]
    of (x ∷ past) (inl p) = since-now p
    of (x ∷ past) (inr r) = since-later r.0 (of past r.1)

    to : (past later : List A) (e : A) (b : List A) → past ≡ later ++ (e ∷ b) → P e b → ((p : Place later) → Q p.entry (p.before ++ (e ∷ b))) → SinceR P Q past
    to [] [] e b w p a = absurd (nil≢cons w)
    to [] (y ∷ l) e b w p a = absurd (nil≢cons w)
    to (x ∷ past) [] e b w p a = inl (rw (head-eq_of_cons-eq w, tail-eq_of_cons-eq w) p)
    to (x ∷ past) (y ∷ l) e b w p a = inr (
      rw (head-eq_of_cons-eq w, tail-eq_of_cons-eq w) (a (record { later = []; entry = y; before = l; whole = refl })),
      to past l e b (tail-eq_of_cons-eq w) p (λ q. a (record { later = y ∷ q.later; entry = q.entry; before = q.before; whole = ap (λ r. y ∷ r) q.whole })),
    )

    pub since-iff : (past : List A) → Since P Q past ↔ SinceR P Q past
    since-iff past = (λ s. to past s.at.later s.at.entry s.at.before s.at.whole s.was s.after, of past)

  module _ (Q : A → List A → Type 0) where
    pub every-nil : Every Q []
    every-nil p = absurd (no_place p)

    pub every-cons : {x : A} {past : List A} → Q x past → Every Q past → Every Q (x ∷ past)
    every-cons {x} {past} q h p = go p.later p.whole
      where
        go : (l : List A) → x ∷ past ≡ l ++ (p.entry ∷ p.before) → Q p.entry p.before
        go [] e = rw (← head-eq_of_cons-eq e, ← tail-eq_of_cons-eq e) q
        go (y ∷ l) e = h (record { later = l; entry = p.entry; before = p.before; whole = tail-eq_of_cons-eq e })

    pub every-head : {x : A} {past : List A} → Every Q (x ∷ past) → Q x past
    every-head {x} {past} h = h (record { later = []; entry = x; before = past; whole = refl })

    pub every-tail : {x : A} {past : List A} → Every Q (x ∷ past) → Every Q past
    every-tail {x} {past} h p = h (record { later = x ∷ p.later; entry = p.entry; before = p.before; whole = ap (λ l. x ∷ l) p.whole })

  -- not both: at the later of the two places the other's "at every later one" holds, too
  pub since_apart : {P Q P' Q' : A → List A → Type 0} → ((x : A) (b : List A) → P x b → P' x b → ⊥) → ((x : A) (b : List A) → P x b → Q' x b → ⊥)
      → ((x : A) (b : List A) → Q x b → P' x b → ⊥) → (past : List A) → Since P Q past → Since P' Q' past → ⊥
  since_apart {P} {Q} {P'} {Q'} here first second past s s' = go past ((since-iff P Q past).0 s) ((since-iff P' Q' past).0 s')
    where
      go : (past : List A) → SinceR P Q past → SinceR P' Q' past → ⊥
      go [] h h' = elim h [ ]
      go (x ∷ past) (inl p) (inl p') = here x past p p'
      go (x ∷ past) (inl p) (inr r') = first x past p r'.0
      go (x ∷ past) (inr r) (inl p') = second x past r.0 p'
      go (x ∷ past) (inr r) (inr r') = go past r.1 r'.1

  -- at every later one the same, where something holds at every entry
  pub since_same : {P Q Q' : A → List A → Type 0} (E : A → List A → Type 0) → ((x : A) (b : List A) → E x b → Q x b → Q' x b)
      → (past : List A) → Every E past → Since P Q past → Since P Q' past
  since_same {P} {Q} {Q'} E f past e s = (since-iff P Q' past).1 (go past e ((since-iff P Q past).0 s))
    where
      go : (past : List A) → Every E past → SinceR P Q past → SinceR P Q' past
      go [] e h = elim h [ ]
      go (x ∷ past) e (inl p) = inl p
      go (x ∷ past) e (inr r) = inr (f x past (every-head E e) r.0, go past (every-tail E e) r.1)
