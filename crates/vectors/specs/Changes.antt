-- One waiting bit changed, in a function with any other parts. Assumes nothing.
use Rattle.std.specs.Prelude.{◌≡◌, Bool, true, false, List, ℕ}
use Rattle.words.specs.Bits.{set_bit, clear_bit}
use Rattle.model.specs.declared.Mode.{Mode}
use Rattle.model.specs.World.{Endpoint, with_waiting}
use Rattle.model.specs.Vectors.{change_waiting}

-- a bit set, or cleared
abbrev pub bit_change : Bool → ℕ → ℕ → ℕ
bit_change true = set_bit
bit_change false = clear_bit

-- the waiting bit of vector v of the mechanism m is set or cleared by `change`: MSI's waiting bits go to r, the pending array to p'
abbrev pub Changes : (change : ℕ → ℕ → ℕ) → Mode → (waiting : ℕ) (p : List ℕ) (v r : ℕ) (p' : List ℕ) → Type 0
Changes change m waiting p v r p' = (u : Endpoint) → with_waiting u r p' ≡ change_waiting change m (with_waiting u waiting p) v
