-- Bytes written into a lent output, and parts of one. Assumes nothing.
use Rattle.std.specs.Prelude.{◌≡◌, List, ◌++◌, ℕ, min, length, take, drop}

-- r is count, and at most all of l. The second part follows from the first, and is stated so that the proof that Rattle makes of `&s[..r]` finds it
abbrev pub Clips : (count : ℕ) → List ℕ → (r : ℕ) → Type 0
Clips count l r = (r ≡ min count (length l)) × (r ≡ length (take r l))

-- bytes p at the start of o: those behind them keep their contents
abbrev pub over : List ℕ → List ℕ → List ℕ
over p o = p ++ drop (length p) o

-- bytes p from place a of o on
abbrev pub put_at : ℕ → List ℕ → List ℕ → List ℕ
put_at a p o = take a o ++ over p (drop a o)

-- what every writer promises: of an output o it makes o', with bytes p at the start, and returns their number r
pub record Wrote (p o : List ℕ) (r : ℕ) (o' : List ℕ) : Type 0 where
  pub count : r ≡ length p
  pub bytes : o' ≡ over p o
