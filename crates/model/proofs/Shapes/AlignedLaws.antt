-- MSI and MSI-X stand at multiples of 4, as every capability does. Assumes nothing.
use mathlib.Core.Path.{◌≡◌, refl}
use mathlib.Core.List.{List, [], ◌∷◌}
use Prim.Native.Nat.{ℕ, ◌%◌}
use Rattle.model.specs.Capabilities.{capabilities, listed, with_id}
use Rattle.model.specs.Shape.{shape_of, shape_in, msi_of, msix_of, msi_at, msix_at, no_msi, no_msix}
use Rattle.model.proofs.Shapes.CapabilityLaws.{first-listed, capabilities-aligned}

-- the first capability with an ID, or 0 where there is none
first-aligned : (c : List ℕ) (id : ℕ) (at : List ℕ → ℕ) → at [] ≡ 0 → ((a : ℕ) (r : List ℕ) → at (a ∷ r) ≡ a)
    → at (with_id c (listed (capabilities c)) id) % 4 ≡ 0
first-aligned c id at z place = go (with_id c (listed (capabilities c)) id) refl
  where
    go : (l : List ℕ) → with_id c (listed (capabilities c)) id ≡ l → at l % 4 ≡ 0
    go [] e = rw z
    go (a ∷ r) e = rw (place a r) (capabilities-aligned c a (first-listed c (listed (capabilities c)) id a r e))

pub msi-aligned : (c : List ℕ) → (shape_of c).msi.at % 4 ≡ 0
unfolding shape_of shape_in msi_of msi_at no_msi
msi-aligned c = first-aligned c 0x05 (λ l. (msi_of c l).at) refl (λ a r. refl)

pub msix-aligned : (c : List ℕ) → (shape_of c).msix.at % 4 ≡ 0
unfolding shape_of shape_in msix_of msix_at no_msix
msix-aligned c = first-aligned c 0x11 (λ l. (msix_of c l).at) refl (λ a r. refl)
