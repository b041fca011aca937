-- Plays of cases: what makes a call right, steps one after another, whole cases. Assumes nothing.
use mathlib.Core.Path.{◌≡◌, refl, sym, ap, ◌∙◌}
use mathlib.Core.Bool.{Bool, true, ◌&&◌}
use mathlib.Core.List.{List, [], ◌∷◌, ◌++◌, map}
use Prim.Native.Nat.{ℕ, zero, suc, ◌+◌, ◌*◌, ◌/◌, ◌≤◌, ◌<◌}
use native.Mathlib.Omega.{arith}
use lib.Dec.{eqb}
use lib.ListN.{length}
use borrow.Author.Tests.{eqb-true, eqb-false}
use Rattle.words.specs.Lists.{same, count}
use Rattle.words.specs.Writers.{over}
use Rattle.words.proofs.BoolLaws.{both, and_intro, by_test, of_T}
use Rattle.words.proofs.ListLaws.{same_true}
use Rattle.model.specs.declared.Answer.{Answer}
use Rattle.model.specs.Calls.{Operation, Outcome, operate, lent_output}
use Rattle.model.specs.World.{world_of, card_of}
use Rattle.model.specs.Answers.{same_answer}
use Rattle.model.specs.Play.{Step, lends, does, Played, fresh, right, unplayed, played, played_all, passes, all_pass}
use Rattle.model.specs.Cases.{starred_cases, limit_cases, data_cases, bench_cases}
use Rattle.model.proofs.Calls.AnswerLaws.{same-equal}
use Rattle.model.proofs.Starred.{starred, limits, data32}

-- ---- a call

-- an outcome is right by its answer, its count and its output
pub right_by : (r : Outcome) (answer : Answer) (bytes out : List ℕ) (a b : Bool) → a ≡ same_answer r.answer answer → b ≡ same r.output (over bytes out)
    → (a && eqb r.count (length bytes) && b) ≡ right r answer bytes out
unfolding right
right_by r answer bytes out a b ea eb = λ i. ea i && eqb r.count (length bytes) && eb i

-- a right outcome has this answer and just these bytes, and keeps the output behind them
pub right_exact : (r : Outcome) (answer : Answer) (bytes out : List ℕ) → right r answer bytes out ≡ true
    → (r.answer ≡ answer) × (r.count ≡ length bytes) × (r.output ≡ over bytes out)
unfolding right
right_exact r answer bytes out e =
    let whole = both (same_answer r.answer answer && eqb r.count (length bytes)) (same r.output (over bytes out)) e in
    let start = both (same_answer r.answer answer) (eqb r.count (length bytes)) whole.0 in
    (same-equal r.answer answer start.0, eqb-true r.count (length bytes) start.1, same_true r.output (over bytes out) whole.1)

-- an outcome is right whatever its world is
pub right_anywhere : (r s : Outcome) (answer : Answer) (bytes out : List ℕ) → r.answer ≡ s.answer → r.count ≡ s.count → r.output ≡ s.output
    → right r answer bytes out ≡ right s answer bytes out
unfolding right
right_anywhere r s answer bytes out a n o = rw (a, n, o)

-- ---- steps one after another

pub played-does : (p : Played) (o : Operation) (bytes : List ℕ) (answer : Answer)
    → played p (does o bytes answer)
    ≡ (record { world = (operate p.world o).world; good = p.good && right (operate p.world o) answer bytes (lent_output o) })
unfolding played
played-does p o bytes answer = refl

-- the card keeps its function and its wire
pub played-lends : (p : Played) (n : ℕ)
    → played p (lends n)
    ≡ (record { world = world_of (card_of p.world) (fresh (16 * n)) (fresh (8 * ((n + 63) / 64))); good = p.good })
unfolding played
played-lends p n = refl

pub played-none : (p : Played) → p ≡ played_all p []
unfolding played_all
played-none p = refl

pub played-one : (p q : Played) (x : Step) → q ≡ played p x → q ≡ played_all p (x ∷ [])
unfolding played_all
played-one p q x e = e

pub played_both : (p : Played) (l m : List Step) → played_all (played_all p l) m ≡ played_all p (l ++ m)
unfolding played_all
played_both p [] m = refl
played_both p (x ∷ l) m = played_both (played p x) l m

-- ---- cases

pub passes-played : (steps : List Step) → (played_all unplayed steps).good ≡ passes steps
unfolding passes
passes-played steps = refl

all_append : (l m : List (List Step)) → all_pass l ≡ true → all_pass m ≡ true → all_pass (l ++ m) ≡ true
unfolding all_pass
all_append [] m a b = b
all_append (k ∷ l) m a b =
    let e = both (passes k) (all_pass l) a in
    and_intro (passes k) (all_pass (l ++ m)) e.0 (all_append l m e.1 b)

differs : (i k : ℕ) → (i ≡ k → ⊥) → i ≤ k → i < k
differs i k n h = omega arith

-- each of some cases passes that are numbered from i on
pub case_passes : (f : ℕ → List Step) (i n : ℕ) → all_pass (map f (count i n)) ≡ true → (k : ℕ) → i ≤ k → k < i + n → passes (f k) ≡ true
unfolding all_pass count
case_passes f i zero e k h j = absurd (omega arith)
case_passes f i (suc n) e k h j =
    let b = both (passes (f i)) (all_pass (map f (count (suc i) n))) e in
    by_test (eqb i k) (λ q. ap (λ (z : ℕ). passes (f z)) (sym (eqb-true i k q)) ∙ b.0)
    (λ q. case_passes f (suc i) n b.1 k (omega (arith, differs i k (eqb-false i k q) h)) (omega arith))

pub bench_pass : all_pass bench_cases ≡ true
bench_pass =
    all_append starred_cases (limit_cases ++ data_cases) (of_T (all_pass starred_cases) starred)
    (all_append limit_cases data_cases (of_T (all_pass limit_cases) limits) (of_T (all_pass data_cases) data32))
