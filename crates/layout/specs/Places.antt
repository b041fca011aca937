-- What the code's walk of the capability list finds, by the definitions of `model`. Assumes nothing.
use Rattle.std.specs.Prelude.{cond, List, [], ◌∷◌, ℕ, suc, ◌+◌, Option, Some, None, length}
use Rattle.std.proofs.Math.Option as list
use Rattle.words.specs.Bits.{bit}
use Rattle.words.specs.Bytes.{byte}
use Rattle.model.specs.Capabilities.{capabilities, with_id}
use Rattle.layout.specs.declared.capability.Found.{Found}
use Rattle.layout.specs.declared.capability.Found.TheVariants.{Nowhere, Once, Again}
use Rattle.layout.specs.declared.capability.Listing.{Listing}

-- of the places with one ID: how many there are, and the first
unfoldable pub found_of : List ℕ → Found
found_of [] = Nowhere
found_of (a ∷ []) = Once a
found_of (a ∷ b ∷ l) = Again a (suc (suc (length l)))

-- how many there are
abbrev pub times : Found → ℕ
times Nowhere = 0
times (Once a) = 1
times (Again a n) = n

-- with one more place behind them
abbrev pub one_more : Found → ℕ → Found
one_more Nowhere a = Once a
one_more (Once b) a = Again b 2
one_more (Again b n) a = Again b (n + 1)

-- where the walk begins: at byte 34h, if Status bit 4 says that there is a list
unfoldable pub first_pointer : List ℕ → ℕ
first_pointer c = cond (bit (byte c 6) 4) (byte c 0x34) 0

abbrev pub listing : Found → Found → Listing
listing msi msix = record { msi = msi; msix = msix }

-- a broken list has no listing
unfoldable pub listing_in : List ℕ → list.Option (List ℕ) → Option Listing
listing_in c list.none = None
listing_in c (list.some l) = Some (listing (found_of (with_id c l 0x05)) (found_of (with_id c l 0x11)))

unfoldable pub listing_of : List ℕ → Option Listing
listing_of c = listing_in c (capabilities c)
