use mathlib.Core.Path.{◌≡◌}
use Prim.Native.Nat.{◌%◌}
use Rattle.release.specs.Owed.{entries, owed_entries}
use Rattle.release.proofs.PendingWords.{owed_from}
use Rattle.release.proofs.msix.none_owed.Given as goal

abbrev pub invariant-loop-at : goal.invariant-loop-at
invariant-loop-at l =
    (l.at % 8 ≡ 0) × (owed_entries l.table l.pending (entries l.table) ≡ owed_from l.table l.pending l.at)
