-- The library's test for the first bytes of a slice compares them the other way round. Assumes nothing.
use Rattle.std.proofs.Common.{◌≡◌, ℕ, List, [], ◌∷◌, refl, ap₂}
use Rattle.words.specs.Lists.{same}
use mathlib.Core.Bool.{Bool, ◌&&◌}
use Rattle.model.proofs.Vectors.RaisedLaws.{eqb_swap}

pub same-swap : (a b : List ℕ) → same a b ≡ same b a
unfolding same
same-swap [] [] = refl
same-swap [] (y ∷ b) = refl
same-swap (x ∷ a) [] = refl
same-swap (x ∷ a) (y ∷ b) = ap₂ (λ (s t : Bool). s && t) (eqb_swap y x) (same-swap a b)
