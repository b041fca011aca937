-- What the code asks of a shape and of the lengths of the lent buffers; a start that accepts gives it. Assumes nothing.
use Rattle.std.specs.Prelude.{◌≡◌, ℕ, ◌+◌, ◌≤◌}
use Rattle.model.specs.declared.Shape.{Shape}
use Rattle.model.specs.Shape.{form_of, table_bytes, pending_bytes}

-- of the shape alone
pub record FitShape (s : Shape) : Type 0 where
  pub msi : s.msi.at + (form_of s).size ≤ 256
  pub capable : s.msi.capable ≤ 5
  pub msix : s.msix.at + 12 ≤ 256
  pub few : s.msix.vectors ≤ 2048

-- and the lengths of the buffers
pub record Fit (s : Shape) (table_length pending_length : ℕ) : Type 0 where
  pub shape : FitShape s
  pub table : table_length ≡ table_bytes s
  pub pending : pending_length ≡ pending_bytes s
