-- What the code asks of a shape beside Fit; a card that a start accepts gives it. Assumes nothing.
use Rattle.std.specs.Prelude.{◌≡◌, true, ◌+◌, ◌%◌, ◌≤◌}
use Rattle.model.specs.declared.Shape.{Shape}
use Rattle.model.specs.Shape.{form_of, msi_present}

-- MSI stands between the header and the end of the configuration
pub record MsiBounds (s : Shape) : Type 0 where
  pub ends : s.msi.at + (form_of s).size ≤ 256
  pub capable : s.msi.capable ≤ 5
  pub high : msi_present s ≡ true → 64 ≤ s.msi.at

-- table and pending array stand at multiples of 8
pub record Aligned (s : Shape) : Type 0 where
  pub table : s.msix.table.at % 8 ≡ 0
  pub pending : s.msix.pending.at % 8 ≡ 0
