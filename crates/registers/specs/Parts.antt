-- A configuration of which a part is as a start gives it, the contract of functions. Assumes nothing.
use Rattle.std.specs.Prelude.{cond, ◌&&◌, List, ℕ, leb, ltb}
use Rattle.words.specs.Bytes.{byte}
use Rattle.model.specs.declared.Shape.{Shape}
use Rattle.model.specs.Registers.{fixed_byte}

-- byte k, where the bytes from lo to hi - 1 are what g gives for their places
unfoldable pub part_of : (ℕ → ℕ → ℕ) → (lo hi : ℕ) → List ℕ → ℕ → ℕ
part_of g lo hi c k = cond (leb lo k && ltb k hi) (g k (byte c k)) (byte c k)

-- they have only their fixed bits
abbrev pub part_fixed : Shape → (lo hi : ℕ) → List ℕ → ℕ → ℕ
part_fixed s = part_of (fixed_byte s)

-- they are 0
abbrev pub part_zero : (lo hi : ℕ) → List ℕ → ℕ → ℕ
part_zero = part_of (λ k x. 0)
