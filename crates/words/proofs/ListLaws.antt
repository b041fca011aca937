-- Laws of the small functions on lists. Assumes nothing.
use mathlib.Core.Path.{◌≡◌, refl, sym, ap, ap₂, ◌∙◌, subst}
use mathlib.Core.Bool.{Bool, true, false, cond, ◌&&◌, ◌||◌, false≢true, and_assoc, and-false, or-true}
use mathlib.Core.List.{List, [], ◌∷◌, ◌++◌, map, append_assoc, append-nil}
use Prim.Native.Nat.{ℕ, zero, suc, ◌+◌, ◌-◌, ◌*◌, ◌%◌, ◌≤◌, ◌<◌}
use native.Mathlib.Nat.{zero-add, mul-suc, mod-lt, dvd_of_mod-eq-zero, dvd-mod_iff, dvd-sub, le_of_dvd}
use native.Mathlib.Numerals.{add-one}
use native.Mathlib.Omega.{arith}
use lib.Dec.{ltb, leb, eqb}
use lib.ListN.{length, drop, get_or, length-append, length-map, drop_of_length-le, get_or-append}
use lib.Seq.{drop-cons, ext_get_or, get_or-append-add}
use borrow.Author.Tests.{eq-eqb, ne_eqb, eqb-true, eqb-false, lt-ltb, le-ltb, le-leb, ltb-true, ltb-false, leb-true}
use Rattle.std.specs.Prelude.{bytes_eq}
use Rattle.words.specs.Lists.{count, keep, all, any, member, join, each_at, all_at, same, within}
use Rattle.words.specs.Bytes.{byte}
use Rattle.words.proofs.BoolLaws.{both, and_intro, same_test, by_test}

-- ---- within

pub within-true : (lo n k : ℕ) → within lo n k ≡ true → (lo ≤ k) × (k < lo + n)
unfolding within
within-true lo n k e =
    let p = both (leb lo k) (ltb k (lo + n)) e in
    (leb-true lo k p.0, ltb-true k (lo + n) p.1)

pub true-within : (lo n k : ℕ) → lo ≤ k → k < lo + n → within lo n k ≡ true
unfolding within
true-within lo n k h j = and_intro (leb lo k) (ltb k (lo + n)) (le-leb lo k h) (lt-ltb k (lo + n) j)

pub not_within : (lo n k : ℕ) → lo + n ≤ k → within lo n k ≡ false
unfolding within
not_within lo n k h = by_test (leb lo k) (λ e. rw (e, le-ltb k (lo + n) h)) (λ e. rw e)

-- what is absent stands at 0, and no place from n on is in its n places
pub absent_apart : (present : Bool) (lo n k : ℕ) → (present ≡ false → lo ≡ 0) → n ≤ k → (present && within lo n k) ≡ within lo n k
absent_apart true lo n k z h = refl
absent_apart false lo n k z h = sym (not_within lo n k (let e : lo ≡ 0 = z refl in omega arith))

-- the places below a, and n more
pub below_more : (a n k : ℕ) → (ltb k a || within a n k) ≡ ltb k (a + n)
unfolding within
below_more a n k =
    by_test (ltb k a) (λ e. rw e (sym (lt-ltb k (a + n) (omega (arith, ltb-true k a e)))))
    (λ e. rw (e, le-leb a k (ltb-false k a e)))

pub below_longer : (a b k : ℕ) → a ≤ b → (ltb k a || ltb k b) ≡ ltb k b
below_longer a b k h = by_test (ltb k a) (λ e. rw e (sym (lt-ltb k b (omega (arith, ltb-true k a e))))) (λ e. rw e)

-- a place counted from lo on
pub below_from : (lo n k : ℕ) → lo ≤ k → ltb (k - lo) n ≡ ltb k (lo + n)
below_from lo n k h =
    by_test (ltb (k - lo) n) (λ e. e ∙ sym (lt-ltb k (lo + n) (omega (arith, ltb-true (k - lo) n e))))
    (λ e. e ∙ sym (le-ltb k (lo + n) (omega (arith, ltb-false (k - lo) n e))))

pub within_shift : (a lo n k : ℕ) → within lo n k ≡ within (a + lo) n (a + k)
within_shift a lo n k =
    same_test (within lo n k) (within (a + lo) n (a + k))
    (λ e. let t = within-true lo n k e in true-within (a + lo) n (a + k) (omega arith) (omega arith))
    (λ e. let t = within-true (a + lo) n (a + k) e in true-within lo n k (omega arith) (omega arith))

-- n places from a multiple of n on cross no multiple of m, if n divides m
pub multiple_inside : (o n m : ℕ) → 0 < m → m % n ≡ 0 → o % n ≡ 0 → o % m + n ≤ m
multiple_inside o n m h d e =
    let a = dvd_of_mod-eq-zero n d in
    let b = (dvd-mod_iff n a).1 (dvd_of_mod-eq-zero n e) in
    let r : o % m < m = mod-lt o h in
    omega (arith, le_of_dvd (omega arith) (dvd-sub n a b))

-- n places from o on that cross no multiple of 8, and m places from a on, both multiples of 8: they lie inside or outside whole
module _ (o n : ℕ) (w : o % 8 + n ≤ 8) (a m : ℕ) (ha : a % 8 ≡ 0) (hm : m % 8 ≡ 0) where
  pub aligned_inside : within a m o ≡ true → (a ≤ o) × (o - a + n ≤ m)
  aligned_inside e = let t = within-true a m o e in (t.0, omega arith)

  pub aligned-same : (k : ℕ) → k < n → within a m (o + k) ≡ within a m o
  aligned-same k h =
      same_test (within a m (o + k)) (within a m o)
      (λ e. let t = within-true a m (o + k) e in true-within a m o (omega arith) (omega arith))
      (λ e. let t = within-true a m o e in true-within a m (o + k) (omega arith) (omega arith))

-- ---- member

member_here : (x y : ℕ) (l : List ℕ) → x ≡ y → member x (y ∷ l) ≡ true
unfolding member
member_here x y l e = rw (eq-eqb x y e)

pub member_head : (x : ℕ) (l : List ℕ) → member x (x ∷ l) ≡ true
member_head x l = member_here x x l refl

pub member_tail : (x y : ℕ) (l : List ℕ) → member x l ≡ true → member x (y ∷ l) ≡ true
unfolding member
member_tail x y l e = rw e (or-true (eqb x y))

-- each member has a property
abbrev pub Holds : (ℕ → Type 0) → List ℕ → Type 0
Holds P l = (x : ℕ) → member x l ≡ true → P x

pub holds_nil : (P : ℕ → Type 0) → Holds P []
unfolding member
holds_nil P x m = absurd (false≢true m)

pub holds_cons : (P : ℕ → Type 0) (a : ℕ) (l : List ℕ) → P a → Holds P l → Holds P (a ∷ l)
unfolding member
holds_cons P a l p h x m = go (eqb x a) refl m
  where
    go : (b : Bool) → eqb x a ≡ b → (b || member x l) ≡ true → P x
    go true e m = subst P (sym (eqb-true x a e)) p
    go false e m = h x m

pub holds_head : (P : ℕ → Type 0) (a : ℕ) (l : List ℕ) → Holds P (a ∷ l) → P a
holds_head P a l h = h a (member_head a l)

pub holds_tail : (P : ℕ → Type 0) (a : ℕ) (l : List ℕ) → Holds P (a ∷ l) → Holds P l
holds_tail P a l h x m = h x (member_tail x a l m)

-- ---- all

pub all_holds : (f : ℕ → Bool) (l : List ℕ) → all f l ≡ true → Holds (λ x. f x ≡ true) l
unfolding all
all_holds f [] e = holds_nil (λ x. f x ≡ true)
all_holds f (y ∷ l) e =
    let p = both (f y) (all f l) e in
    holds_cons (λ x. f x ≡ true) y l p.0 (all_holds f l p.1)

pub holds_all : (f : ℕ → Bool) (l : List ℕ) → Holds (λ x. f x ≡ true) l → all f l ≡ true
unfolding all
holds_all f [] h = refl
holds_all f (y ∷ l) h =
    and_intro (f y) (all f l) (holds_head (λ x. f x ≡ true) y l h) (holds_all f l (holds_tail (λ x. f x ≡ true) y l h))

pub all_append : (f : ℕ → Bool) (l r : List ℕ) → all f (l ++ r) ≡ (all f l && all f r)
unfolding all
all_append f [] r = refl
all_append f (x ∷ l) r = ap (λ (b : Bool). f x && b) (all_append f l r) ∙ sym (and_assoc (f x) (all f l) (all f r))

-- ---- any

-- a number of a list that passes a test
pub record Passing (f : ℕ → Bool) (l : List ℕ) : Type 0 where
  pub number : ℕ
  pub listed : member number l ≡ true
  pub passes : f number ≡ true

pub any-true : (f : ℕ → Bool) (l : List ℕ) → any f l ≡ true → Passing f l
unfolding any
any-true f [] e = absurd (false≢true e)
any-true f (x ∷ l) e =
    by_test (f x) (λ p. record { number = x; listed = member_head x l; passes = p })
    (λ p.
    let r = any-true f l (rw p at e) in
    record { number = r.number; listed = member_tail r.number x l r.listed; passes = r.passes })

pub true-any : (f : ℕ → Bool) (l : List ℕ) (x : ℕ) → member x l ≡ true → f x ≡ true → any f l ≡ true
unfolding any member
true-any f [] x m p = m
true-any f (y ∷ l) x m p = by_test (eqb x y) (λ e. rw (← eqb-true x y e, p)) (λ e. rw (true-any f l x (rw e at m) p) (or-true (f y)))

-- ---- count

pub length-count : (i n : ℕ) → length (count i n) ≡ n
unfolding count
length-count i zero = refl
length-count i (suc n) = ap suc (length-count (suc i) n)

pub member-count : (i n : ℕ) → Holds (λ x. (i ≤ x) × (x < i + n)) (count i n)
unfolding count
member-count i zero = holds_nil (λ x. (i ≤ x) × (x < i + 0))
member-count i (suc n) =
    holds_cons (λ x. (i ≤ x) × (x < i + suc n)) i (count (suc i) n) (omega arith, omega arith)
    λ x m. let p = member-count (suc i) n x m in (omega arith, omega arith)

pub count-member : (i n x : ℕ) → i ≤ x → x < i + n → member x (count i n) ≡ true
unfolding count
count-member i zero x h j = absurd (omega arith)
count-member i (suc n) x h j =
    by_test (eqb x i) (λ e. member_here x i (count (suc i) n) (eqb-true x i e))
    (λ e. let ne : x ≡ i → ⊥ = eqb-false x i e in member_tail x i (count (suc i) n) (count-member (suc i) n x (omega (arith, ne)) (omega arith)))

pub member-within : (i n x : ℕ) → member x (count i n) ≡ within i n x
member-within i n x =
    same_test (member x (count i n)) (within i n x) (λ e. let m = member-count i n x e in true-within i n x m.0 m.1)
    (λ e. let m = within-true i n x e in count-member i n x m.0 m.1)

map_from : {A : Type 0} (f : ℕ → A) (d : A) (i n k : ℕ) → k < n → get_or (map f (count i n)) k d ≡ f (i + k)
unfolding count
map_from f d i zero k h = absurd (omega arith)
map_from f d i (suc n) zero h = let e : i + 0 ≡ i = omega arith in rw e
map_from f d i (suc n) (suc k) h = let e : i + suc k ≡ suc i + k = omega arith in rw e (map_from f d (suc i) n k (omega arith))

-- a function's values at 0, 1, ..
pub map-count : {A : Type 0} (f : ℕ → A) (d : A) (n k : ℕ) → k < n → get_or (map f (count 0 n)) k d ≡ f k
map-count f d n k h = map_from f d 0 n k h ∙ ap f (zero-add k)

-- are a list with these elements
pub map-listed : {A : Type 0} (f : ℕ → A) (d : A) (l : List A) (n : ℕ) → length l ≡ n → ((k : ℕ) → k < n → f k ≡ get_or l k d) → map f (count 0 n) ≡ l
map-listed f d l n e h =
    let size : length (map f (count 0 n)) ≡ n = length-map (count 0 n) f ∙ length-count 0 n in
    ext_get_or d (map f (count 0 n)) l (size ∙ sym e) (λ k j. let i : k < n = omega arith in map-count f d n k i ∙ h k i)

-- a test that passes at each number below n
pub all-below : (f : ℕ → Bool) (n k : ℕ) → all f (count 0 n) ≡ true → k < n → f k ≡ true
all-below f n k e h = all_holds f (count 0 n) e k (count-member 0 n k (omega arith) (omega arith))

-- ---- keep

pub member-keep : (f : ℕ → Bool) (l : List ℕ) (x : ℕ) → member x (keep f l) ≡ (f x && member x l)
unfolding member keep
member-keep f [] x = sym (and-false (f x))
member-keep f (y ∷ l) x = go (f y) (eqb x y) refl refl (member-keep f l x)
  where
    go : (a b : Bool) → f y ≡ a → eqb x y ≡ b → member x (keep f l) ≡ (f x && member x l)
        → member x (cond a (y ∷ keep f l) (keep f l)) ≡ (f x && (b || member x l))
    go true true p q r =
        let e : x ≡ y = eqb-true x y q in
        ap (λ (t : Bool). t || member x (keep f l)) q ∙ sym (ap (λ (t : Bool). t && true) (ap f e ∙ p))
    go true false p q r = ap (λ (t : Bool). t || member x (keep f l)) q ∙ r
    go false true p q r =
        let e : f x ≡ false = ap f (eqb-true x y q) ∙ p in
        r ∙ ap (λ (t : Bool). t && member x l) e ∙ sym (ap (λ (t : Bool). t && true) e)
    go false false p q r = r

pub keep_same : (f g : ℕ → Bool) (l : List ℕ) → Holds (λ a. f a ≡ g a) l → keep f l ≡ keep g l
unfolding keep
keep_same f g [] h = refl
keep_same f g (x ∷ l) h =
    let e : f x ≡ g x = holds_head (λ a. f a ≡ g a) x l h in
    let r : keep f l ≡ keep g l = keep_same f g l (holds_tail (λ a. f a ≡ g a) x l h) in
    rw (e, r)

pub keep-none : (f : ℕ → Bool) (l : List ℕ) → Holds (λ a. f a ≡ false) l → keep f l ≡ []
unfolding keep
keep-none f [] h = refl
keep-none f (x ∷ l) h =
    let e : f x ≡ false = holds_head (λ a. f a ≡ false) x l h in
    let r : keep f l ≡ [] = keep-none f l (holds_tail (λ a. f a ≡ false) x l h) in
    rw (e, r)

pub keep_all : (f : ℕ → Bool) (l : List ℕ) → Holds (λ a. f a ≡ true) l → keep f l ≡ l
unfolding keep
keep_all f [] h = refl
keep_all f (x ∷ l) h =
    let e : f x ≡ true = holds_head (λ a. f a ≡ true) x l h in
    let r : keep f l ≡ l = keep_all f l (holds_tail (λ a. f a ≡ true) x l h) in
    rw (e, r)

-- nothing kept: none passes
pub keep-nil : (f : ℕ → Bool) (l : List ℕ) → keep f l ≡ [] → Holds (λ a. f a ≡ false) l
keep-nil f l e x m = go (f x) refl
  where
    go : (b : Bool) → f x ≡ b → f x ≡ false
    go false p = p
    go true p = holds_nil (λ y. f x ≡ false) x (sym (ap (member x) e) ∙ member-keep f l x ∙ and_intro (f x) (member x l) p m)

pub keep-length : (f : ℕ → Bool) (l : List ℕ) → length (keep f l) ≤ length l
unfolding keep
keep-length f [] = omega arith
keep-length f (x ∷ l) = go (f x) (keep-length f l)
  where
    go : (b : Bool) → length (keep f l) ≤ length l → length (cond b (x ∷ keep f l) (keep f l)) ≤ suc (length l)
    go true h = omega arith
    go false h = omega arith

pub keep_append : (f : ℕ → Bool) (l r : List ℕ) → keep f (l ++ r) ≡ keep f l ++ keep f r
unfolding keep
keep_append f [] r = refl
keep_append f (x ∷ l) r = go (f x) (keep_append f l r)
  where
    go : (b : Bool) → keep f (l ++ r) ≡ keep f l ++ keep f r → cond b (x ∷ keep f (l ++ r)) (keep f (l ++ r)) ≡ cond b (x ∷ keep f l) (keep f l) ++ keep f r
    go true h = ap (λ (m : List ℕ). x ∷ m) h
    go false h = h

pub count-append : (i m n : ℕ) → count i (m + n) ≡ count i m ++ count (i + m) n
unfolding count
count-append i zero n = let e : 0 + n ≡ n = omega arith in let z : i + 0 ≡ i = omega arith in rw (e, z)
count-append i (suc m) n =
    let e : suc m + n ≡ suc (m + n) = omega arith in
    let z : i + suc m ≡ suc i + m = omega arith in
    rw (e, z) (ap (λ (l : List ℕ). i ∷ l) (count-append (suc i) m n))

pub all-count : (f : ℕ → Bool) (m n : ℕ) → all f (count 0 (m + n)) ≡ (all f (count 0 m) && all f (count m n))
all-count f m n =
    ap (all f) (count-append 0 m n) ∙ all_append f (count 0 m) (count (0 + m) n)
    ∙ ap (λ (i : ℕ). all f (count 0 m) && all f (count i n)) (zero-add m)

-- a test that fails from n on keeps nothing there
pub keep-below : (f : ℕ → Bool) (n k : ℕ) → n ≤ k → ((v : ℕ) → n ≤ v → f v ≡ false) → keep f (count 0 n) ≡ keep f (count 0 k)
keep-below f n k h none =
    let e : k ≡ n + (k - n) = omega arith in
    let z : keep f (count (0 + n) (k - n)) ≡ [] = keep-none f (count (0 + n) (k - n)) (λ v m. none v (rw zero-add at (member-count (0 + n) (k - n) v m).0)) in
    sym (ap (λ (j : ℕ). keep f (count 0 j)) e ∙ ap (keep f) (count-append 0 n (k - n)) ∙ keep_append f (count 0 n) (count (0 + n) (k - n)) ∙ rw (z, append-nil))

-- two such places give the same
pub keep-same_end : (f : ℕ → Bool) (a b : ℕ) → ((v : ℕ) → a ≤ v → f v ≡ false) → ((v : ℕ) → b ≤ v → f v ≡ false) → keep f (count 0 a) ≡ keep f (count 0 b)
keep-same_end f a b h g = keep-below f a (a + b) (omega arith) h ∙ sym (keep-below f b (a + b) (omega arith) g)

-- ---- join

-- the first of a list
pub join_first : (f : ℕ → List ℕ) (x : ℕ) (l m : List ℕ) → l ≡ x ∷ m → join f l ≡ f x ++ join f m
unfolding join
join_first f x l m e = ap (join f) e

pub join-none : (f : ℕ → List ℕ) (l : List ℕ) → l ≡ [] → join f l ≡ []
unfolding join
join-none f l e = ap (join f) e

-- each part has k elements
pub join_parts : (f : ℕ → List ℕ) (k : ℕ) (l : List ℕ) → Holds (λ x. length (f x) ≡ k) l → length (join f l) ≡ k * length l
unfolding join
join_parts f k [] h = omega arith
join_parts f k (x ∷ l) h =
    let a : length (f x) ≡ k = holds_head (λ x. length (f x) ≡ k) x l h in
    let b : length (join f l) ≡ k * length l = join_parts f k l (holds_tail (λ x. length (f x) ≡ k) x l h) in
    rw length-append (omega (arith, mul-suc k (length l)))

pub join_each : (f : ℕ → List ℕ) (k : ℕ) (l : List ℕ) → ((x : ℕ) → length (f x) ≡ k) → length (join f l) ≡ k * length l
join_each f k l h = join_parts f k l (λ x _. h x)

-- so byte j of part v stands behind v parts
pub join-byte : (f : ℕ → List ℕ) (k : ℕ) → ((x : ℕ) → length (f x) ≡ k) → (i n v j : ℕ) → v < n → j < k → byte (join f (count i n)) (k * v + j) ≡ byte (f (i + v)) j
unfolding join count
join-byte f k e i zero v j h l = absurd (omega arith)
join-byte f k e i (suc n) zero j h l =
    let z : k * 0 + j ≡ j = omega arith in
    let a : i + 0 ≡ i = omega arith in
    rw (z, a) (get_or-append (f i) (join f (count (suc i) n)) 0 j (omega (arith, e i)))
join-byte f k e i (suc n) (suc v) j h l =
    let z : k * suc v + j ≡ length (f i) + (k * v + j) = omega (arith, e i, mul-suc k v) in
    let a : i + suc v ≡ suc i + v = omega arith in
    rw (z, a) (get_or-append-add (f i) (join f (count (suc i) n)) (k * v + j) 0 ∙ join-byte f k e (suc i) n v j (omega arith) l)

-- each part has at most k elements
pub join-length : (f : ℕ → List ℕ) (k : ℕ) (l : List ℕ) → ((x : ℕ) → length (f x) ≤ k) → length (join f l) ≤ k * length l
unfolding join
join-length f k [] h = omega arith
join-length f k (x ∷ l) h =
    let a : length (f x) ≤ k = h x in
    let b : length (join f l) ≤ k * length l = join-length f k l h in
    let c : k * suc (length l) ≡ k * length l + k = mul-suc k (length l) in
    rw length-append (omega arith)

pub join-append : (f : ℕ → List ℕ) (l r : List ℕ) → join f (l ++ r) ≡ join f l ++ join f r
unfolding join
join-append f [] r = refl
join-append f (x ∷ l) r = ap (λ (m : List ℕ). f x ++ m) (join-append f l r) ∙ sym (append_assoc (f x) (join f l) (join f r))

-- the same parts
pub join_members : (f g : ℕ → List ℕ) (l : List ℕ) → Holds (λ x. f x ≡ g x) l → join f l ≡ join g l
unfolding join
join_members f g [] h = refl
join_members f g (x ∷ l) h = ap₂ ◌++◌ (holds_head (λ x. f x ≡ g x) x l h) (join_members f g l (holds_tail (λ x. f x ≡ g x) x l h))

pub join-same : (f g : ℕ → List ℕ) (l : List ℕ) → ((x : ℕ) → f x ≡ g x) → join f l ≡ join g l
join-same f g l h = join_members f g l (λ x _. h x)

-- empty parts
pub join-empty : (f : ℕ → List ℕ) (l : List ℕ) → Holds (λ x. f x ≡ []) l → join f l ≡ []
unfolding join
join-empty f [] h = refl
join-empty f (x ∷ l) h = rw (holds_head (λ x. f x ≡ []) x l h) (join-empty f l (holds_tail (λ x. f x ≡ []) x l h))

-- of some numbers one at most gives something
pub join_one : (f : ℕ → List ℕ) (v i n : ℕ) → ((x : ℕ) → (x ≡ v → ⊥) → f x ≡ []) → i ≤ v → v < i + n → join f (count i n) ≡ f v
unfolding join count
join_one f v i zero h a b = absurd (omega arith)
join_one f v i (suc n) h a b =
    by_test (eqb v i)
    (λ e.
    let q : v ≡ i = eqb-true v i e in
    let r : join f (count (suc i) n) ≡ [] =
    join-empty f (count (suc i) n) (λ x m. let p = member-count (suc i) n x m in h x (λ z. absurd (omega arith))) in
    rw (r, q, append-nil))
    (λ e.
    let q : v ≡ i → ⊥ = eqb-false v i e in
    rw (h i (λ p. q (sym p))) (join_one f v (suc i) n h (omega (arith, q)) (omega arith)))

pub join-map : (f : ℕ → List ℕ) (g : ℕ → ℕ) (l : List ℕ) → join f (map g l) ≡ join (λ j. f (g j)) l
unfolding join
join-map f g [] = refl
join-map f g (x ∷ l) = ap (λ (m : List ℕ). f (g x) ++ m) (join-map f g l)

-- ---- each_at, all_at

pub length_each : (f : ℕ → ℕ → ℕ) (i : ℕ) (l : List ℕ) → length (each_at f i l) ≡ length l
unfolding each_at
length_each f i [] = refl
length_each f i (b ∷ l) = ap suc (length_each f (suc i) l)

each_from : (f : ℕ → ℕ → ℕ) (i : ℕ) (l : List ℕ) (k : ℕ) → k < length l → byte (each_at f i l) k ≡ f (i + k) (byte l k)
unfolding each_at
each_from f i [] k h = absurd (omega arith)
each_from f i (b ∷ l) zero h = let e : i + 0 ≡ i = omega arith in rw e
each_from f i (b ∷ l) (suc k) h = let e : i + suc k ≡ suc i + k = omega arith in rw e (each_from f (suc i) l k (omega arith))

pub byte_each : (f : ℕ → ℕ → ℕ) (l : List ℕ) (k : ℕ) → k < length l → byte (each_at f 0 l) k ≡ f k (byte l k)
byte_each f l k h = each_from f 0 l k h ∙ ap (λ (i : ℕ). f i (byte l k)) (zero-add k)

all_from : (f : ℕ → ℕ → Bool) (i : ℕ) (l : List ℕ) (k : ℕ) → all_at f i l ≡ true → k < length l → f (i + k) (byte l k) ≡ true
unfolding all_at
all_from f i [] k e h = absurd (omega arith)
all_from f i (b ∷ l) zero e h = let z : i + 0 ≡ i = omega arith in rw z (both (f i b) (all_at f (suc i) l) e).0
all_from f i (b ∷ l) (suc k) e h =
    let z : i + suc k ≡ suc i + k = omega arith in
    rw z (all_from f (suc i) l k (both (f i b) (all_at f (suc i) l) e).1 (omega arith))

pub all-at : (f : ℕ → ℕ → Bool) (l : List ℕ) (k : ℕ) → all_at f 0 l ≡ true → k < length l → f k (byte l k) ≡ true
all-at f l k e h = ap (λ (i : ℕ). f i (byte l k)) (sym (zero-add k)) ∙ all_from f 0 l k e h

from_all : (f : ℕ → ℕ → Bool) (i : ℕ) (l : List ℕ) → ((k : ℕ) → k < length l → f (i + k) (byte l k) ≡ true) → all_at f i l ≡ true
unfolding all_at
from_all f i [] h = refl
from_all f i (b ∷ l) h =
    and_intro (f i b) (all_at f (suc i) l)
    (let z : i + 0 ≡ i = omega arith in rw z at (h 0 (omega arith)))
    (from_all f (suc i) l (λ k j. let z : i + suc k ≡ suc i + k = omega arith in rw z at (h (suc k) (omega arith))))

pub at_all : (f : ℕ → ℕ → Bool) (l : List ℕ) → ((k : ℕ) → k < length l → f k (byte l k) ≡ true) → all_at f 0 l ≡ true
at_all f l h = from_all f 0 l (λ k j. ap (λ (i : ℕ). f i (byte l k)) (zero-add k) ∙ h k j)

-- ---- same

pub same_true : (l m : List ℕ) → same l m ≡ true → l ≡ m
unfolding same
same_true [] [] e = refl
same_true [] (y ∷ m) e = absurd (false≢true e)
same_true (x ∷ l) [] e = absurd (false≢true e)
same_true (x ∷ l) (y ∷ m) e =
    let p = both (eqb x y) (same l m) e in
    ap₂ (λ (a : ℕ) (r : List ℕ). a ∷ r) (eqb-true x y p.0) (same_true l m p.1)

pub same_refl : (l : List ℕ) → same l l ≡ true
unfolding same
same_refl [] = refl
same_refl (x ∷ l) = and_intro (eqb x x) (same l l) (eq-eqb x x refl) (same_refl l)

-- the lists from place i on
module _ (l m : List ℕ) (i : ℕ) (h : i < length l) (j : i < length m) where
  pub same_next : byte l i ≡ byte m i → same (drop (i + 1) l) (drop (i + 1) m) ≡ same (drop i l) (drop i m)
  unfolding same
  same_next e = rw (add-one i, drop-cons l i 0 h, drop-cons m i 0 j, eq-eqb (byte l i) (byte m i) e)

  pub same_differs : (byte l i ≡ byte m i → ⊥) → same (drop i l) (drop i m) ≡ false
  unfolding same
  same_differs n = rw (drop-cons l i 0 h, drop-cons m i 0 j, ne_eqb (byte l i) (byte m i) n)

pub same-past : (l m : List ℕ) (i : ℕ) → length l ≤ i → length m ≤ i → same (drop i l) (drop i m) ≡ true
unfolding same
same-past l m i h j = rw (drop_of_length-le l {i = i} h, drop_of_length-le m {i = i} j)

pub other_lengths : (l m : List ℕ) → (length l ≡ length m → ⊥) → false ≡ same l m
other_lengths l m n = same_test false (same l m) (λ e. absurd (false≢true e)) (λ e. absurd (n (ap length (same_true l m e))))

-- the library's equality of bytes
pub same-bytes_eq : (l m : List ℕ) → bytes_eq l m ≡ same l m
unfolding same
same-bytes_eq [] [] = refl
same-bytes_eq [] (y ∷ m) = refl
same-bytes_eq (x ∷ l) [] = refl
same-bytes_eq (x ∷ l) (y ∷ m) = ap (λ (b : Bool). eqb x y && b) (same-bytes_eq l m)

-- ---- a test that one number at most passes

single : (f : ℕ → Bool) (v i n : ℕ) → ((x : ℕ) → (x ≡ v → ⊥) → x < i + n → f x ≡ false) → i ≤ v → v < i + n → keep f (count i n) ≡ cond (f v) (v ∷ []) []
unfolding keep count
single f v i zero h a b = absurd (omega arith)
single f v i (suc n) h a b =
    by_test (eqb v i)
    (λ e.
    let q : v ≡ i = eqb-true v i e in
    let r : keep f (count (suc i) n) ≡ [] =
    keep-none f (count (suc i) n) (λ x m. let p = member-count (suc i) n x m in h x (λ z. absurd (omega arith)) (omega arith)) in
    rw (r, q))
    (λ e.
    let q : v ≡ i → ⊥ = eqb-false v i e in
    let z : f i ≡ false = h i (λ p. q (sym p)) (omega arith) in
    rw z (single f v (suc i) n (λ x m l. h x m (omega arith)) (omega (arith, q)) (omega arith)))

pub keep_here : (f : ℕ → Bool) (v n : ℕ) → ((x : ℕ) → (x ≡ v → ⊥) → x < n → f x ≡ false) → v < n → keep f (count 0 n) ≡ cond (f v) (v ∷ []) []
keep_here f v n h l = single f v 0 n (λ x m j. h x m (omega arith)) (omega arith) (omega arith)
