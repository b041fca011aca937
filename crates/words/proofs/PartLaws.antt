-- Parts of lists: clipped ones, ones that were written, and bytes in front of what stood there before. Assumes nothing.
use mathlib.Core.Path.{◌≡◌, refl, sym, ap, subst, ◌∙◌}
use mathlib.Core.Bool.{Bool, true, false, false≢true}
use mathlib.Core.List.{List, [], ◌∷◌, ◌++◌, append-nil}
use Prim.Native.Nat.{ℕ, ◌+◌, ◌-◌, ◌≤◌, min}
use native.Mathlib.Omega.{arith}
use lib.Dec.{leb}
use lib.ListN.{length, take, drop, replicate, length-take, length-drop, length-replicate, drop_of_length-le, replicate-append-replicate, take-append-drop}
use lib.Seq.{length-take-le, take_all, take_at}
use borrow.Author.Tests.{leb-true, leb-false, eq-eqb}
use Rattle.words.specs.Lists.{same}
use Rattle.words.specs.Writers.{Clips, over}
use Rattle.words.proofs.BoolLaws.{by_test, same_test}
use Rattle.words.proofs.ListLaws.{same_true, same_refl}

-- ---- a number of elements, and at most all

pub clips : (k : ℕ) (l : List ℕ) (n : ℕ) → n ≡ min k (length l) → Clips k l n
clips k l n e = (e, sym (length-take-le n l (omega arith)))

pub clipped_part : (n k : ℕ) (l : List ℕ) → n ≡ min k (length l) → take n l ≡ take k l
clipped_part n k l e =
    by_test (leb k (length l))
    (λ q. let h : k ≤ length l = leb-true k (length l) q in let g : n ≡ k = omega arith in ap (λ (j : ℕ). take j l) g)
    (λ q. let h : length l ≤ k = omega (arith, leb-false k (length l) q) in take_all n l (omega arith) ∙ sym (take_all k l h))

pub clipped_rest : (n k : ℕ) (l : List ℕ) → n ≡ min k (length l) → drop n l ≡ drop k l
clipped_rest n k l e =
    by_test (leb k (length l))
    (λ q. let h : k ≤ length l = leb-true k (length l) q in let g : n ≡ k = omega arith in ap (λ (j : ℕ). drop j l) g)
    (λ q.
    let h : length l ≤ k = omega (arith, leb-false k (length l) q) in
    drop_of_length-le l {i = n} (omega arith) ∙ sym (drop_of_length-le l h))

pub to_end : (n : ℕ) (l : List ℕ) → take (length l - n) (drop n l) ≡ drop n l
to_end n l = take_all (length l - n) (drop n l) (omega (arith, length-drop n l))

-- ---- a part that was written, in front of the rest

clipped : (n k m : ℕ) → n ≡ min k m → min n m ≡ n
clipped n k m e = omega arith

pub written-part : (n k : ℕ) (l t : List ℕ) → n ≡ min k (length l) → length t ≡ length (take n l) → take k (t ++ drop n l) ≡ t
written-part n k l t e h =
    let j : length t ≡ n = h ∙ length-take n l ∙ clipped n k (length l) e in
    by_test (leb k (length l))
    (λ q. let g : k ≤ length l = leb-true k (length l) q in take_at t (drop n l) k (omega arith))
    (λ q.
    let g : length l ≤ k = omega (arith, leb-false k (length l) q) in
    let z : drop n l ≡ [] = drop_of_length-le l {i = n} (omega arith) in
    let w : t ++ drop n l ≡ t = ap (λ (x : List ℕ). t ++ x) z ∙ append-nil t in
    ap (λ (x : List ℕ). take k x) w ∙ take_all k t (omega arith))

-- the first k of m equal elements
pub equal-bytes : (k m x : ℕ) → k ≤ m → take k (replicate m x) ≡ replicate k x
equal-bytes k m x h =
    let g : k + (m - k) ≡ m = omega arith in
    ap (λ (l : List ℕ). take k l) (ap (λ (j : ℕ). replicate j x) (sym g) ∙ sym (replicate-append-replicate k (m - k) x))
    ∙ take_at (replicate k x) (replicate (m - k) x) k (length-replicate k x)

-- ---- bytes in front of what stood there before

same-behind : (a b d : List ℕ) → same b d ≡ same (a ++ b) (a ++ d)
unfolding same
same-behind [] b d = refl
same-behind (x ∷ a) b d = rw (eq-eqb x x refl) (same-behind a b d)

module _ (out bytes before : List ℕ) (c : Bool) (e : c ≡ same (take (length bytes) out) bytes) where
  pub other_front : c ≡ false → c ≡ same out (over bytes before)
  other_front n =
      n ∙ same_test false _ (λ q. absurd (false≢true q))
      (λ q.
      let f : take (length bytes) out ≡ bytes =
      ap (λ (l : List ℕ). take (length bytes) l) (same_true _ _ q) ∙ take_at bytes (drop (length bytes) before) (length bytes) refl in
      absurd (false≢true (sym n ∙ e ∙ subst (λ (l : List ℕ). same l bytes ≡ true) (sym f) (same_refl bytes))))

  pub same_front : c ≡ true → same (drop (length bytes) out) (drop (length bytes) before) ≡ same out (over bytes before)
  same_front n =
      let f : take (length bytes) out ≡ bytes = same_true _ _ (sym e ∙ n) in
      same-behind bytes (drop (length bytes) out) (drop (length bytes) before)
      ∙ ap (λ (l : List ℕ). same l (over bytes before)) (ap (λ (l : List ℕ). l ++ drop (length bytes) out) (sym f) ∙ take-append-drop (length bytes) out)
