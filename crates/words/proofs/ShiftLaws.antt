-- What passes a test from a higher place on is what passes the shifted test, shifted. Assumes nothing.
use mathlib.Core.Path.{◌≡◌, refl, sym, ap, ◌∙◌}
use mathlib.Core.Bool.{Bool, true, false, cond}
use mathlib.Core.List.{List, ◌∷◌, map}
use Prim.Native.Nat.{ℕ, zero, suc, ◌+◌}
use native.Mathlib.Nat.{add-suc}
use Rattle.words.specs.Lists.{count, keep}

pub keep_shift : (f : ℕ → Bool) (a i k : ℕ) → keep f (count (a + i) k) ≡ map (λ j. a + j) (keep (λ j. f (a + j)) (count i k))
unfolding count keep
keep_shift f a i zero = refl
keep_shift f a i (suc k) = go (f (a + i)) (ap (λ (j : ℕ). keep f (count j k)) (sym (add-suc a i)) ∙ keep_shift f a (suc i) k)
  where
    go : (b : Bool) → keep f (count (suc (a + i)) k) ≡ map (λ j. a + j) (keep (λ j. f (a + j)) (count (suc i) k))
        → cond b ((a + i) ∷ keep f (count (suc (a + i)) k)) (keep f (count (suc (a + i)) k))
        ≡ map (λ j. a + j) (cond b (i ∷ keep (λ j. f (a + j)) (count (suc i) k)) (keep (λ j. f (a + j)) (count (suc i) k)))
    go true e = ap (λ (l : List ℕ). (a + i) ∷ l) e
    go false e = e
