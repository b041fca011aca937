use Rattle.words.proofs.Sending.{Sending}
use Rattle.release.specs.Owed.{set_bits, word_packets}
use Rattle.release.proofs.Among.{Among}
use Rattle.release.proofs.entry.word_send.Given as goal

abbrev pub invariant-loop-v : goal.invariant-loop-v
invariant-loop-v l =
    (goal.iterator-loop-v).can_next l.v-iterator × (goal.iterator-loop-v).is_finite l.v-iterator × Among 64 l.w (set_bits 64 l.v-iterator.0)
    × Sending (word_packets l.requester l.table l.base l.w) l.initial.out l.out (word_packets l.requester l.table l.base l.v-iterator.0) l.at
