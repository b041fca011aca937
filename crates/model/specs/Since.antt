-- "It was so at some entry, and so at every later one", over a past with the latest entry first. Assumes nothing.
use Rattle.std.specs.Prelude.{◌≡◌, List, ◌∷◌, ◌++◌}

module _ {A : Type 0} where
  -- a place in a past: the entries later than it, the entry, the entries before it
  pub record Place (past : List A) : Type 0 where
    pub later : List A
    pub entry : A
    pub before : List A
    pub whole : past ≡ later ++ (entry ∷ before)

  -- at some place P holds, and Q at every later one. Both are told the entry and the entries before it
  pub record Since (P Q : A → List A → Type 0) (past : List A) : Type 0 where
    pub at : Place past
    pub was : P at.entry at.before
    pub after : (p : Place at.later) → Q p.entry (p.before ++ (at.entry ∷ at.before))

  -- Q holds at every place
  abbrev pub Every : (Q : A → List A → Type 0) → List A → Type 0
  Every Q past = (p : Place past) → Q p.entry p.before
