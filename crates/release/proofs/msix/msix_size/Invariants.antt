use mathlib.Core.Path.{◌≡◌}
use Prim.Native.Nat.{ℕ, ◌+◌, ◌%◌}
use lib.ListN.{length}
use Rattle.release.specs.Owed.{entries, owed_entries, entry_packets}
use Rattle.release.proofs.PendingWords.{owed_from}
use Rattle.release.proofs.msix.msix_size.Given as goal

abbrev pub invariant-loop-at : goal.invariant-loop-at
invariant-loop-at l =
    (l.at % 8 ≡ 0)
    × ((requester : ℕ) → l.n + length (entry_packets requester l.table (owed_from l.table l.pending l.at)) ≡ length (entry_packets requester l.table (owed_entries l.table l.pending (entries l.table))))
