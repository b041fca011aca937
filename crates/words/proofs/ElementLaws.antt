-- Elements of lists of any type, by their places. Assumes nothing.
use mathlib.Core.Path.{◌≡◌, refl, sym, ap}
use mathlib.Core.Bool.{true, cond, ◌&&◌}
use mathlib.Core.List.{List, [], ◌∷◌}
use Prim.Native.Nat.{ℕ, zero, suc, ◌<◌}
use native.Mathlib.Omega.{arith}
use lib.Dec.{ltb, eqb}
use lib.ListN.{length, set, get_or, replicate}
use lib.Seq.{get_or-set_same, get_or-set_other, set_out}
use borrow.Author.Tests.{eqb-true, eqb-false, eq-eqb, ltb-true, ltb-false}
use Rattle.words.proofs.BoolLaws.{by_test}

-- an element that is there, whatever stands for a missing one
pub element : {A : Type 0} (l : List A) (k : ℕ) (d e : A) → k < length l → get_or l k d ≡ get_or l k e
element [] k d e h = absurd (omega (arith, h))
element (x ∷ l) zero d e h = refl
element (x ∷ l) (suc k) d e h = element l k d e (omega (arith, h))

-- any place of equal elements, also past their end
pub all-equal : {A : Type 0} (n i : ℕ) (a : A) → get_or (replicate n a) i a ≡ a
all-equal zero i a = refl
all-equal (suc n) zero a = refl
all-equal (suc n) (suc i) a = all-equal n i a

-- what is so of a new element and of the old one is so of the element after a change
pub set_elim : {A : Type 0} (P : A → Type 0) (l : List A) (j k : ℕ) (x d : A) → P x → P (get_or l k d) → P (get_or (set l j x) k d)
set_elim P [] j k x d p q = q
set_elim P (y ∷ l) zero zero x d p q = p
set_elim P (y ∷ l) zero (suc k) x d p q = q
set_elim P (y ∷ l) (suc j) zero x d p q = q
set_elim P (y ∷ l) (suc j) (suc k) x d p q = set_elim P l j k x d p q

-- an element after a change of one that is there, or of none
pub element_set : {A : Type 0} (l : List A) (j k : ℕ) (x d : A) → get_or (set l j x) k d ≡ cond (eqb j k && ltb j (length l)) x (get_or l k d)
element_set {A = A} l j k x d = by_test (eqb j k) here (λ e. rw e (get_or-set_other l j k x d (λ q. eqb-false j k e (sym q))))
  where
    here : eqb j k ≡ true → get_or (set l j x) k d ≡ cond (eqb j k && ltb j (length l)) x (get_or l k d)
    here e =
        rw (← eqb-true j k e, eq-eqb j j refl)
        (by_test (ltb j (length l)) (λ h. rw h (get_or-set_same l j x d (ltb-true j (length l) h)))
        (λ h. rw h (ap (λ (m : List A). get_or m j d) (set_out l j x (ltb-false j (length l) h)))))
