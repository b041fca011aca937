-- A shape as the code finds it, and the bounds of a shape. Assumes nothing.
use Rattle.std.specs.Prelude.{◌≡◌, List, ℕ, ◌%◌, ◌≤◌, ◌<◌}
use Rattle.model.specs.Shape.{no_msi, msi_at, no_msix, msix_at}
use Rattle.model.specs.declared.MsiShape.{MsiShape}
use Rattle.model.specs.declared.MsixShape.{MsixShape}
use Rattle.model.specs.declared.Shape.{Shape}
use Rattle.layout.specs.declared.capability.Found.{Found}
use Rattle.layout.specs.declared.capability.Found.TheVariants.{Nowhere, Once, Again}

-- the first capability of an ID counts
abbrev pub msi_found : List ℕ → Found → MsiShape
msi_found c Nowhere = no_msi
msi_found c (Once a) = msi_at c a
msi_found c (Again a n) = msi_at c a

abbrev pub msix_found : List ℕ → Found → MsixShape
msix_found c Nowhere = no_msix
msix_found c (Once a) = msix_at c a
msix_found c (Again a n) = msix_at c a

-- where a capability can stand: two bytes and two more fit behind it
pub record Place (a : ℕ) : Type 0 where
  pub aligned : a % 4 ≡ 0
  pub below : a < 253

abbrev pub Placed : Found → Type 0
Placed Nowhere = Unit {0}
Placed (Once a) = Place a
Placed (Again a n) = Place a

-- how large the numbers of a shape are
pub record Bounded (s : Shape) : Type 0 where
  pub msi : s.msi.at < 253
  pub capable : s.msi.capable < 8
  pub msix : s.msix.at < 253
  pub vectors : s.msix.vectors ≤ 2048
  pub table_bar : s.msix.table.bar < 8
  pub table_at : s.msix.table.at < 4294967296
  pub pending_bar : s.msix.pending.bar < 8
  pub pending_at : s.msix.pending.at < 4294967296
