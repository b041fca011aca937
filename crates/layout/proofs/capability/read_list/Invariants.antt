-- The rest of the walk, applied to what was found so far, gives the whole listing; what was found is no more than the places passed. Assumes nothing.
use Rattle.std.proofs.Common.{◌≡◌, ◌+◌, ◌≤◌}
use Rattle.model.specs.Capabilities.{walk}
use Rattle.layout.specs.Places.{times, listing_of}
use Rattle.layout.proofs.Walks.{onward}
use Rattle.layout.proofs.capability.read_list.Given as goal

abbrev pub invariant-loop-at : goal.invariant-loop-at
invariant-loop-at l =
    (l.places.config.now ≡ l.c) × (onward l.c l.msi l.msix (walk l.c l.places.left l.places.link) ≡ listing_of l.c)
    × (times l.msi + l.places.left ≤ 48) × (times l.msix + l.places.left ≤ 48)
