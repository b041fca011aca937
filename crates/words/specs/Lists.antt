-- Small functions on lists of numbers. Assumes nothing.
use Rattle.std.specs.Prelude.{Bool, true, false, not, cond, ◌&&◌, ◌||◌, List, [], ◌∷◌, ◌++◌, ℕ, zero, suc, ◌+◌, ltb, leb, eqb}

-- the n numbers i, i + 1, ..
unfoldable pub count : ℕ → ℕ → List ℕ
count i zero = []
count i (suc n) = i ∷ count (suc i) n

-- those that pass a test, in their order
unfoldable pub keep : (ℕ → Bool) → List ℕ → List ℕ
keep f [] = []
keep f (x ∷ l) = cond (f x) (x ∷ keep f l) (keep f l)

-- each passes a test
unfoldable pub all : (ℕ → Bool) → List ℕ → Bool
all f [] = true
all f (x ∷ l) = f x && all f l

-- one of them passes a test
unfoldable pub any : (ℕ → Bool) → List ℕ → Bool
any f [] = false
any f (x ∷ l) = f x || any f l

-- x is one of them
unfoldable pub member : ℕ → List ℕ → Bool
member x [] = false
member x (y ∷ l) = eqb x y || member x l

-- what f gives for each, one behind another
unfoldable pub join : (ℕ → List ℕ) → List ℕ → List ℕ
join f [] = []
join f (x ∷ l) = f x ++ join f l

-- what f gives for each with its place, counted from i
unfoldable pub each_at : (ℕ → ℕ → ℕ) → ℕ → List ℕ → List ℕ
each_at f i [] = []
each_at f i (x ∷ l) = f i x ∷ each_at f (suc i) l

-- each passes a test with its place, counted from i
unfoldable pub all_at : (ℕ → ℕ → Bool) → ℕ → List ℕ → Bool
all_at f i [] = true
all_at f i (x ∷ l) = f i x && all_at f (suc i) l

-- the two lists are equal
unfoldable pub same : List ℕ → List ℕ → Bool
same [] [] = true
same [] (y ∷ m) = false
same (x ∷ l) [] = false
same (x ∷ l) (y ∷ m) = eqb x y && same l m

-- place k is one of the n from lo on
unfoldable pub within : ℕ → ℕ → ℕ → Bool
within lo n k = leb lo k && ltb k (lo + n)

-- n places from a on and m places from b on have one in common
unfoldable pub overlap : ℕ → ℕ → ℕ → ℕ → Bool
overlap a n b m = ltb a (b + m) && ltb b (a + n)

-- of rows, each a number and a test: the number of the first row whose test passes, or 0
unfoldable pub first_of : List (ℕ × Bool) → ℕ
first_of [] = 0
first_of (r ∷ rs) = cond r.1 r.0 (first_of rs)

-- no row has the number k
unfoldable pub lacks : ℕ → List (ℕ × Bool) → Bool
lacks k [] = true
lacks k (r ∷ rs) = not (eqb r.0 k) && lacks k rs
