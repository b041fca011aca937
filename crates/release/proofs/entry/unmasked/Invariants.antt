use Rattle.release.specs.Owed.{set_bits}
use Rattle.release.proofs.Among.{Among}
use Rattle.release.proofs.Masking.{Masking}
use Rattle.release.proofs.entry.unmasked.Given as goal

abbrev pub invariant-loop-v : goal.invariant-loop-v
invariant-loop-v l =
    (goal.iterator-loop-v).can_next l.v-iterator × (goal.iterator-loop-v).is_finite l.v-iterator × Among 64 l.w (set_bits 64 l.v-iterator.0)
    × Masking l.table l.base l.w (set_bits 64 l.v-iterator.0) l.r
