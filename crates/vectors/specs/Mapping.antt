-- What an event means, as the code says it. Assumes nothing.
use Rattle.std.proofs.Math.Option as Math
use Rattle.std.specs.Prelude.{ℕ, Option, None, Some}
use Rattle.model.specs.declared.Vector.{Vector}

-- the number of the vector that is meant
unfoldable pub vector_in : Option Vector → Math.Option ℕ
vector_in None = Math.none
vector_in (Some v) = Math.some v.0
