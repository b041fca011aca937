-- The bytes of `src` from place i on are still to be stored. Assumes nothing.
use mathlib.Core.Path.{◌≡◌}
use Prim.Native.Nat.{◌-◌, ◌≤◌}
use lib.ListN.{length, drop}
use Rattle.words.specs.Writers.{put_at, over}
use Rattle.words.proofs.put.put_slice.Given as goal

abbrev pub invariant-loop-i : goal.invariant-loop-i
invariant-loop-i l =
    (l.i-end ≡ length l.src) × (l.i ≤ length l.src) × (length l.out ≡ length l.initial.out) × (put_at l.i (drop l.i l.src) l.out ≡ over l.src l.initial.out)

abbrev pub decreases-loop-i : goal.decreases-loop-i
decreases-loop-i l = length l.src - l.i
