use mathlib.Core.Path.{◌≡◌}
use Prim.Native.Nat.{ℕ, ◌+◌}
use lib.ListN.{length}
use Rattle.release.specs.Owed.{set_bits, word_packets}
use Rattle.release.proofs.Among.{Among}
use Rattle.release.proofs.entry.word_size.Given as goal

abbrev pub invariant-loop-v : goal.invariant-loop-v
invariant-loop-v l =
    (goal.iterator-loop-v).can_next l.v-iterator × (goal.iterator-loop-v).is_finite l.v-iterator × Among 64 l.w (set_bits 64 l.v-iterator.0)
    × ((requester : ℕ) → l.n + length (word_packets requester l.table l.base l.v-iterator.0) ≡ length (word_packets requester l.table l.base l.w))
