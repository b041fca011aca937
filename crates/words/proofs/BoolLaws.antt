-- Tests taken apart. Assumes nothing.
use mathlib.Core.Path.{◌≡◌, refl, sym, ap, ◌∙◌}
use mathlib.Core.Bool.{Bool, true, false, not, cond, ◌&&◌, ◌||◌, true≢false, false≢true, beq}
use mathlib.Core.List.{List, [], ◌∷◌, ◌++◌}
use Prim.Native.Nat.{ℕ, ◌≤◌}
use native.Mathlib.Omega.{arith}
use lib.Dec.{T, ltb, leb, eqb}
use borrow.Author.Tests.{eq-eqb, eqb-true, eqb-false, lt-ltb, le-ltb, le-leb, ltb-false, not-true}
use Rattle.words.specs.Lists.{first_of, lacks}

pub both : (a b : Bool) → (a && b) ≡ true → (a ≡ true) × (b ≡ true)
both true b e = (refl, e)
both false b e = absurd (false≢true e)

pub neither : (a b : Bool) → (a || b) ≡ false → (a ≡ false) × (b ≡ false)
neither true b e = absurd (true≢false e)
neither false b e = (refl, e)

pub or_intro : (a b : Bool) → a ≡ false → b ≡ false → (a || b) ≡ false
or_intro a b p q = rw p q

pub and_intro : (a b : Bool) → a ≡ true → b ≡ true → (a && b) ≡ true
and_intro a b p q = rw p q

-- the second fails where the first holds
pub second_false : (a b : Bool) → a ≡ true → (a && b) ≡ false → b ≡ false
second_false a b h e = rw h at e

pub beq_true : (a b : Bool) → beq a b ≡ true → a ≡ b
beq_true true true e = refl
beq_true true false e = absurd (false≢true e)
beq_true false true e = absurd (false≢true e)
beq_true false false e = refl

pub beq_refl : (a : Bool) → beq a a ≡ true
beq_refl true = refl
beq_refl false = refl

-- two tests that say the same
pub same_test : (a b : Bool) → (a ≡ true → b ≡ true) → (b ≡ true → a ≡ true) → a ≡ b
same_test true b f g = sym (f refl)
same_test false true f g = g refl
same_test false false f g = refl

-- a test goes one way or the other
pub by_test : {P : Type 0} (b : Bool) → (b ≡ true → P) → (b ≡ false → P) → P
by_test true f g = f refl
by_test false f g = g refl

pub cond_elim : {A : Type 0} (P : A → Type 0) (b : Bool) {x y : A} → (b ≡ true → P x) → (b ≡ false → P y) → P (cond b x y)
cond_elim P true f g = f refl
cond_elim P false f g = g refl

pub cond-not : {A : Type 0} (b : Bool) (x y : A) → cond (not b) x y ≡ cond b y x
cond-not true x y = refl
cond-not false x y = refl

pub cond_same : {A : Type 0} (b : Bool) (x : A) → cond b x x ≡ x
cond_same true x = refl
cond_same false x = refl

-- eight tests joined from the left are the same joined from the right, by an operation that is associative and has a unit
pub eight_joined : (op : Bool → Bool → Bool) (u : Bool) → ((a b c : Bool) → op (op a b) c ≡ op a (op b c)) → ((a : Bool) → op a u ≡ a)
    → (a b c d e f g h : Bool) → op (op (op (op (op (op (op a b) c) d) e) f) g) h ≡ op a (op b (op c (op d (op e (op f (op g (op h u)))))))
eight_joined op u assoc unit a b c d e f g h = simp (assoc, unit)

-- three tests with the same number
pub three_rows : (a b c : Bool) (x y : ℕ) → cond a x (cond b x (cond c x y)) ≡ cond ((a || b) || c) x y
three_rows true b c x y = refl
three_rows false true c x y = refl
three_rows false false true x y = refl
three_rows false false false x y = refl

-- what is done once or twice, if twice is no more than once
pub cond-twice : (a b : Bool) (f : ℕ → ℕ) (x : ℕ) → f (f x) ≡ f x → cond b (f (cond a (f x) x)) (cond a (f x) x) ≡ cond (a || b) (f x) x
cond-twice true true f x e = e
cond-twice true false f x e = refl
cond-twice false b f x e = refl

-- ---- tests of numbers

-- a place from lo on that is not below hi
pub not-between : (lo hi k : ℕ) → (leb lo k && ltb k hi) ≡ false → lo ≤ k → hi ≤ k
not-between lo hi k e h = ltb-false k hi (second_false (leb lo k) (ltb k hi) (le-leb lo k h) e)

pub below_one : (x : ℕ) → ltb x 1 ≡ eqb x 0
below_one x =
    by_test (eqb x 0) (λ e. lt-ltb x 1 (omega (arith, eqb-true x 0 e)) ∙ sym e)
    (λ e. le-ltb x 1 (let n : x ≡ 0 → ⊥ = eqb-false x 0 e in omega (arith, n)) ∙ sym e)

-- a test of two numbers that says: both are 0
pub both_zero : (x y z : ℕ) → (z ≡ 0 → (x ≡ 0) × (y ≡ 0)) → (x ≡ 0 → y ≡ 0 → z ≡ 0) → eqb z 0 ≡ (eqb x 0 && eqb y 0)
both_zero x y z f g =
    same_test (eqb z 0) (eqb x 0 && eqb y 0)
    (λ e. let p = f (eqb-true z 0 e) in and_intro (eqb x 0) (eqb y 0) (eq-eqb x 0 p.0) (eq-eqb y 0 p.1))
    (λ e. let p = both (eqb x 0) (eqb y 0) e in eq-eqb z 0 (g (eqb-true x 0 p.0) (eqb-true y 0 p.1)))

pub of_T : (b : Bool) → T b → b ≡ true
of_T true t = refl
of_T false t = absurd t

-- ---- rows of refusals

-- another number than a row's: the row does not apply
pub row_other : (n k : ℕ) {t : Bool} (rs : List (ℕ × Bool)) → eqb n k ≡ false → first_of ((n, t) ∷ rs) ≡ k → (t ≡ false) × (first_of rs ≡ k)
unfolding first_of
row_other n k {t = true} rs p e = absurd (false≢true (sym p ∙ eq-eqb n k e))
row_other n k {t = false} rs p e = (refl, e)

-- no row applies: read off one row after the other
pub passed : (n : ℕ) {t : Bool} (rs : List (ℕ × Bool)) → eqb n 0 ≡ false → first_of ((n, t) ∷ rs) ≡ 0 → (t ≡ false) × (first_of rs ≡ 0)
passed n rs = row_other n 0 rs

-- a row that does not apply
pub row-passes : (n : ℕ) {t : Bool} (rs : List (ℕ × Bool)) → t ≡ false → first_of ((n, t) ∷ rs) ≡ first_of rs
unfolding first_of
row-passes n rs e = rw e

-- a row that applies
pub row-refuses : (n : ℕ) {t : Bool} (rs : List (ℕ × Bool)) → t ≡ true → first_of ((n, t) ∷ rs) ≡ n
unfolding first_of
row-refuses n rs e = rw e

-- no row is left
pub no_row : first_of [] ≡ 0
unfolding first_of
no_row = refl

-- what is true of 0 and of a row's number
pub first_elim : (P : ℕ → Type 0) (n : ℕ) (t : Bool) (rs : List (ℕ × Bool)) → P n → P (first_of rs) → P (first_of ((n, t) ∷ rs))
unfolding first_of
first_elim P n true rs p q = p
first_elim P n false rs p q = q

-- a number that no row has is not the first
pub first-lacks : (k : ℕ) (rs : List (ℕ × Bool)) → eqb 0 k ≡ false → lacks k rs ≡ true → eqb (first_of rs) k ≡ false
unfolding first_of lacks
first-lacks k [] z e = z
first-lacks k (x ∷ rs) z e =
    let b = both (not (eqb x.0 k)) (lacks k rs) e in
    first_elim (λ n. eqb n k ≡ false) x.0 x.1 rs (not-true (eqb x.0 k) b.0) (first-lacks k rs z b.1)

-- rows, and rows behind them
pub first-append : (l r : List (ℕ × Bool)) → lacks 0 l ≡ true → first_of (l ++ r) ≡ cond (eqb (first_of l) 0) (first_of r) (first_of l)
unfolding first_of lacks
first-append [] r e = refl
first-append (x ∷ l) r e = go x.1 (first-append l r (both (not (eqb x.0 0)) (lacks 0 l) e).1)
  where
    go : (t : Bool) → first_of (l ++ r) ≡ cond (eqb (first_of l) 0) (first_of r) (first_of l)
        → cond t x.0 (first_of (l ++ r)) ≡ cond (eqb (cond t x.0 (first_of l)) 0) (first_of r) (cond t x.0 (first_of l))
    go true h = ap (λ (b : Bool). cond b (first_of r) x.0) (sym (not-true (eqb x.0 0) (both (not (eqb x.0 0)) (lacks 0 l) e).0))
    go false h = h
