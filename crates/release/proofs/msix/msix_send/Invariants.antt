use Rattle.release.proofs.Releases.{Releasing}
use Rattle.release.proofs.msix.msix_send.Given as goal

abbrev pub invariant-loop-at : goal.invariant-loop-at
invariant-loop-at l = Releasing l.requester l.table l.initial.pending l.initial.out l.out l.pending l.sent l.at
