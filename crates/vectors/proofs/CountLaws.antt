-- The vectors of a mechanism have their places: MSI's in a word, MSI-X's in the table and in the pending array. Assumes nothing.
use mathlib.Core.Path.{◌≡◌}
use mathlib.Core.Bool.{Bool, true, false, not, cond, false≢true}
use mathlib.Core.List.{List}
use Prim.Native.Nat.{ℕ, ◌+◌, ◌*◌, ◌/◌, ◌^◌, ◌≤◌, ◌<◌}
use native.Mathlib.Omega.{arith}
use lib.Dec.{ltb}
use lib.Pow.{pow_mono}
use borrow.Author.Tests.{ltb-true, ne_eqb}
use Rattle.words.proofs.BoolLaws.{both}
use Rattle.model.specs.declared.Mode.TheVariants.{Pin, Msi, Msix}
use Rattle.model.specs.declared.Shape.{Shape}
use Rattle.model.specs.Shape.{msi_present, msi_vectors, table_bytes, pending_bytes}
use Rattle.model.specs.World.{Registers}
use Rattle.model.specs.Vectors.{vector_count, enabled, granted, enable_field, msix_control_bit}
use Rattle.vectors.specs.Given.{regs}

-- an enabled vector: the pin has none, MSI's is granted, MSI-X's has its entry
pub pin-not-enabled : (s : Shape) (r : Registers) (v : ℕ) → enabled Pin s r v ≡ true → ⊥
unfolding enabled
pin-not-enabled s r v h = false≢true h

-- whatever the table holds
pub enabled-granted : (s : Shape) (c t : List ℕ) (v : ℕ) → enabled Msi s (regs c t) v ≡ true → (t' : List ℕ) → v < granted s (regs c t')
unfolding enabled granted enable_field
enabled-granted s c t v h t' = ltb-true v (granted s (regs c t)) h

pub enabled-entry : (s : Shape) (r : Registers) (v : ℕ) → enabled Msix s r v ≡ true → v < vector_count Msix s
unfolding enabled vector_count
enabled-entry s r v h = ltb-true v s.msix.vectors (both (ltb v s.msix.vectors) (not (msix_control_bit s r 14)) h).0

pub no-msi : (s : Shape) → s.msi.at ≡ 0 → 0 ≡ msi_vectors s
unfolding msi_vectors msi_present
no-msi s e = rw e

pub with-msi : (s : Shape) → (s.msi.at ≡ 0 → ⊥) → 2 ^ s.msi.capable ≡ msi_vectors s
unfolding msi_vectors msi_present
with-msi s e = rw (ne_eqb s.msi.at 0 e)

pub msi-count : (s : Shape) → s.msi.capable ≤ 5 → vector_count Msi s ≤ 32
unfolding vector_count msi_vectors
msi-count s h = go (msi_present s)
  where
    go : (b : Bool) → cond b (2 ^ s.msi.capable) 0 ≤ 32
    go true = pow_mono h
    go false = omega arith

module _ (s : Shape) (n : ℕ) where
  -- the bits of the pending array
  pub msix-count : n ≡ pending_bytes s → vector_count Msix s ≤ 8 * n
  unfolding vector_count pending_bytes
  msix-count e = omega arith

  pub pending_inside : (v : ℕ) → v < vector_count Msix s → n ≡ pending_bytes s → v / 8 < n
  pending_inside v h e = omega (arith, msix-count e)

  -- the entry of a vector
  pub entry_inside : (v : ℕ) → v < vector_count Msix s → n ≡ table_bytes s → 16 * v + 16 ≤ n
  unfolding vector_count table_bytes
  entry_inside v h e = omega arith
