use Rattle.words.specs.Lists.{join}
use Rattle.words.proofs.Sending.{Sending}
use Rattle.model.specs.Packets.{message}
use Prim.Native.Nat.{◌+◌}
use Rattle.release.specs.Owed.{set_bits, msi_packets}
use Rattle.release.proofs.Among.{Among}
use Rattle.release.proofs.msi.msi_send.Given as goal

abbrev pub invariant-loop-v : goal.invariant-loop-v
invariant-loop-v l =
    (goal.iterator-loop-v).can_next l.v-iterator × (goal.iterator-loop-v).is_finite l.v-iterator × Among 64 l.owed (set_bits 64 l.v-iterator.0)
    × Sending (msi_packets l.requester l.base.upper l.base.address l.base.value l.owed) l.initial.out l.out
    (join (λ v. message l.requester l.base.upper l.base.address (l.base.value + v)) (set_bits 64 l.v-iterator.0)) l.at
