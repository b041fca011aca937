-- The bytes before place i are as a start gives them. Assumes nothing.
use mathlib.Core.Path.{◌≡◌}
use Prim.Native.Nat.{ℕ, ◌≤◌, max}
use lib.ListN.{length}
use Rattle.words.specs.Bytes.{byte}
use Rattle.registers.specs.Parts.{part_fixed}
use Rattle.registers.proofs.masks.Formed.fix_part.Given as goal

abbrev pub invariant-loop-i : goal.invariant-loop-i
invariant-loop-i l =
    (l.lo ≤ l.i) × (l.i ≤ max l.lo l.hi) × (length l.config ≡ 256) × ((k : ℕ) → byte l.config k ≡ part_fixed l.self.shape l.lo l.i l.initial.config k)
