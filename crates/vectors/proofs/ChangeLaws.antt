-- One waiting bit set or cleared: a law for each mechanism. Assumes nothing.
use mathlib.Core.Path.{◌≡◌, sym}
use mathlib.Core.List.{List}
use Prim.Native.Nat.{ℕ, ◌/◌, ◌%◌, ◌≤◌, ◌<◌}
use native.Mathlib.Omega.{arith}
use lib.ListN.{set}
use Rattle.words.specs.Bytes.{byte}
use Rattle.model.specs.declared.Mode.{Mode}
use Rattle.model.specs.declared.Mode.TheVariants.{Pin, Msi, Msix}
use Rattle.model.specs.declared.Shape.{Shape}
use Rattle.model.specs.Shape.{pending_bytes}
use Rattle.model.specs.World.{with_waiting}
use Rattle.model.specs.Vectors.{vector_count}
use Rattle.model.proofs.Vectors.WaitingLaws.{change_pin, change_msi, change_msix}
use Rattle.vectors.specs.Changes.{Changes}
use Rattle.vectors.proofs.CountLaws.{msi-count, pending_inside}

module _ (change : ℕ → ℕ → ℕ) (m : Mode) (waiting : ℕ) (p : List ℕ) (v : ℕ) where
  pub changes-pin : m ≡ Pin → Changes change m waiting p v waiting p
  changes-pin e u = rw e (sym (change_pin change (with_waiting u waiting p) v))

  pub changes-msi : (r : ℕ) → m ≡ Msi → r ≡ change waiting v → Changes change m waiting p v r p
  changes-msi r e er u = rw (e, er) (sym (change_msi change (with_waiting u waiting p) v))

  pub changes-msix : (p' : List ℕ) → m ≡ Msix → p' ≡ set p (v / 8) (change (byte p (v / 8)) (v % 8)) → Changes change m waiting p v waiting p'
  changes-msix p' e ep u = rw (e, ep) (sym (change_msix change (with_waiting u waiting p) v))

-- the place of the bit
pub msi_place : (m : Mode) (s : Shape) (v : ℕ) → m ≡ Msi → s.msi.capable ≤ 5 → v < vector_count m s → v < 32
msi_place m s v e c h = let k : v < vector_count Msi s = rw e at h in omega (arith, msi-count s c)

pub msix_place : (m : Mode) (s : Shape) (v n : ℕ) → m ≡ Msix → n ≡ pending_bytes s → v < vector_count m s → v / 8 < n
msix_place m s v n e q h = let k : v < vector_count Msix s = rw e at h in pending_inside s n v k q
