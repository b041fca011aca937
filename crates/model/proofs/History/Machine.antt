-- A machine that is called again and again, and a bit of it: one law of every call gives one theorem of every list of calls.
-- Nothing here knows of cards. Assumes nothing.
use mathlib.Core.Path.{◌≡◌, refl}
use mathlib.Core.Bool.{Bool, true, false, not, ◌&&◌, ◌||◌, true≢false, false≢true}
use mathlib.Core.List.{List, [], ◌∷◌, foldl}
use mathlib.Core.Logic.Iff
use mathlib.Core.Logic.{◌↔◌, ◌⊎◌, inl, inr}
use Rattle.model.specs.Since.{Since}
use Rattle.model.proofs.History.SinceLaws.{SinceR, since-iff}

-- what every step keeps, every list of steps keeps
pub list_keeps : {State Call : Type 0} (one : State → Call → State) (Inv : State → Type 0) → ((r : State) (c : Call) → Inv r → Inv (one r c))
    → (r : State) (calls : List Call) → Inv r → Inv (foldl one r calls)
list_keeps one Inv keep r [] i = i
list_keeps one Inv keep r (c ∷ calls) i = list_keeps one Inv keep (one r c) calls (keep r c i)

-- the bit after an entry: it was made one now, or it was one and the entry did not clear it
abbrev pub bit_after : (made was cleared : Bool) → Bool
bit_after made was cleared = made || (was && not cleared)

after_iff : (made was cleared : Bool) {S K : Type 0} → (was ≡ true) ↔ S → (cleared ≡ false) ↔ K
    → (bit_after made was cleared ≡ true) ↔ ((made ≡ true) ⊎ (K × S))
after_iff true was c s k = (λ e. inl refl, λ x. refl)
after_iff false true true s k = (λ e. absurd (false≢true e), elim [ inl e ↦ absurd (false≢true e) | inr p ↦ absurd (true≢false (k.1 p.0)) ])
after_iff false true false s k = (λ e. inr (k.0 refl, s.0 refl), λ x. refl)
after_iff false false c s k = (λ e. absurd (false≢true e), elim [ inl e ↦ absurd (false≢true e) | inr p ↦ absurd (false≢true (s.1 p.1)) ])

-- States with a past, and a bit. `Good` is what every call keeps of a state; `made` and `cleared` are read off an entry and the past before it;
-- `Kept` says in other words that an entry did not clear the bit
module _ {State Call Entry : Type 0} (one : State → Call → State) (past : State → List Entry) (bit : State → Bool) (Good : State → Type 0)
    (made cleared : Entry → List Entry → Bool) where
  -- what is asked of a state r and the state r' after one call on it
  pub record Law (r r' : State) : Type 0 where
    pub entry : Entry
    pub longer : past r' ≡ entry ∷ past r
    pub good : Good r'
    pub wait : bit r' ≡ bit_after (made entry (past r)) (bit r) (cleared entry (past r))

  module _ (Kept : Entry → List Entry → Type 0) (kept : (x : Entry) (before : List Entry) → (cleared x before ≡ false) ↔ Kept x before)
      (law : (r : State) (c : Call) → Good r → Law r (one r c)) where
    record Inv (r : State) : Type 0 where
      good : Good r
      wait : (bit r ≡ true) ↔ SinceR (λ x before. made x before ≡ true) Kept (past r)

    keep : (r : State) (c : Call) → Inv r → Inv (one r c)
    keep r c i =
        let l : Law r (one r c) = law r c i.good in
        record {
          good = l.good;
          wait = rw (l.longer, l.wait) (after_iff (made l.entry (past r)) (bit r) (cleared l.entry (past r)) i.wait (kept l.entry (past r)));
        }

    -- after every list of calls on a state with no past and the bit zero: some entry made it one, and no later one cleared it
    pub bit-iff : (r : State) → Good r → past r ≡ [] → bit r ≡ false → (calls : List Call)
        → (bit (foldl one r calls) ≡ true) ↔ Since (λ x before. made x before ≡ true) Kept (past (foldl one r calls))
    bit-iff r g p b calls = Iff.trans all.wait (Iff.symm (since-iff _ _ (past (foldl one r calls))))
      where
        all : Inv (foldl one r calls)
        all = list_keeps one Inv keep r calls (record { good = g; wait = rw (p, b) (λ e. false≢true e, λ x. absurd x) })

-- the bit after an entry that made nothing and clears what it withdraws and what is open, where no open bit is one
pub bit-withdrawn : (was withdraws opens : Bool) → (opens && was) ≡ false → (was && not withdraws) ≡ bit_after false was (withdraws || opens)
bit-withdrawn true true o q = refl
bit-withdrawn true false true q = absurd (true≢false q)
bit-withdrawn true false false q = refl
bit-withdrawn false w o q = refl
