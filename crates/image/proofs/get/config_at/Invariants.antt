-- The bytes from place i on are still to be stored. Assumes nothing.
use mathlib.Core.Path.{◌≡◌}
use Prim.Native.Nat.{◌-◌, ◌≤◌}
use lib.ListN.{length}
use Rattle.words.specs.Bytes.{part}
use Rattle.words.proofs.PutLaws.{Filled}
use Rattle.image.proofs.get.config_at.Given as goal

abbrev pub invariant-loop-i : goal.invariant-loop-i
invariant-loop-i l = (l.i ≤ 256) × (length (part l.at 256 l.s) ≡ 256) × Filled (part l.at 256 l.s) l.i l.config

abbrev pub decreases-loop-i : goal.decreases-loop-i
decreases-loop-i l = 256 - l.i
