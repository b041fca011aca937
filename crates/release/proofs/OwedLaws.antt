-- The lent buffers of a function that fit its shape. Assumes nothing.
use mathlib.Core.Path.{◌≡◌, refl, sym, ap, ◌∙◌}
use mathlib.Core.Bool.{not}
use mathlib.Core.List.{List}
use Prim.Native.Nat.{ℕ, ◌+◌, ◌*◌, ◌/◌}
use native.Mathlib.Omega.{arith}
use lib.ListN.{length}
use Rattle.words.specs.Lists.{all}
use Rattle.model.specs.declared.Mode.TheVariants.{Msix}
use Rattle.model.specs.declared.Shape.{Shape}
use Rattle.model.specs.Shape.{table_bytes, pending_bytes}
use Rattle.model.specs.World.{Endpoint}
use Rattle.model.specs.Vectors.{waits, pending_bit}
use Rattle.model.specs.Fit.{Fit}
use Rattle.model.specs.Ready.{Below}
use Rattle.release.specs.Owed.{entries, Lent}

-- N is the table's number of entries
pub entries_fit : (s : Shape) (table : List ℕ) → length table ≡ table_bytes s → entries table ≡ s.msix.vectors
unfolding table_bytes
entries_fit s table e = omega arith

pub lent : (s : Shape) (u : Endpoint) → Fit s (length u.table) (length u.pending) → Below s u → Lent u.table u.pending
unfolding pending_bytes waits pending_bit
lent s u f b =
    let e : entries u.table ≡ s.msix.vectors = entries_fit s u.table f.table in
    record { words = f.pending ∙ ap (λ (n : ℕ). 8 * ((n + 63) / 64)) (sym e); beyond = λ v h. b.msix v (omega (arith, e)) }

-- the waiting bits of MSI-X are those of the pending array
pub beyond-waits : (u : Endpoint) (l : List ℕ) → all (λ v. not (pending_bit u.pending v)) l ≡ all (λ v. not (waits Msix u v)) l
unfolding waits pending_bit
beyond-waits u l = refl
