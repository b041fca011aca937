-- Parts of the checks of a start, each the contract of a function. Assumes nothing.
use Rattle.std.specs.Prelude.{Bool, true, false, not, ◌&&◌, ◌||◌, List, ℕ, ltb, eqb}
use Rattle.words.specs.Lists.{overlap}
use Rattle.model.specs.Shape.{msi_present, msix_present}
use Rattle.model.specs.Start.{misplaced}
use Rattle.model.specs.declared.Shape.{Shape}
use Rattle.layout.specs.declared.capability.Found.{Found}
use Rattle.layout.specs.declared.capability.Found.TheVariants.{Nowhere, Once, Again}
use Rattle.layout.specs.declared.capability.Listing.{Listing}

-- the header at o is the structure's own, or stands outside of its n bytes at a
abbrev pub apart : ℕ → ℕ → ℕ → Bool
apart a n o = eqb o a || not (overlap o 2 a n)

-- the three parts of check 13, where MSI takes n bytes
unfoldable pub bad_msi : List ℕ → Shape → ℕ → Bool
bad_msi places s n = msi_present s && (ltb 5 s.msi.capable || misplaced places s.msi.at n)

unfoldable pub bad_msix : List ℕ → Shape → Bool
bad_msix places s = msix_present s && misplaced places s.msix.at 12

unfoldable pub bad_pair : Shape → ℕ → Bool
bad_pair s n = msi_present s && msix_present s && overlap s.msi.at n s.msix.at 12

-- more than one place
abbrev pub again : Found → Bool
again Nowhere = false
again (Once a) = false
again (Again a n) = true

-- check 12 of what the walk found
abbrev pub listed_twice : Listing → Bool
listed_twice l = again l.msi || again l.msix
