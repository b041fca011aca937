-- The first k entries have their mask bits set, and all else is 0. Assumes nothing.
use mathlib.Core.Path.{◌≡◌}
use Prim.Native.Nat.{ℕ, ◌-◌, ◌*◌, ◌≤◌, ◌<◌}
use lib.ListN.{length}
use Rattle.words.specs.Bytes.{byte}
use Rattle.registers.proofs.EntryLaws.{started}
use Rattle.registers.proofs.table.started_table.Given as goal

abbrev pub invariant-loop-k : goal.invariant-loop-k
invariant-loop-k l = (l.k ≤ l.n) × (length l.table ≡ 16 * l.n) × ((i : ℕ) → i < length l.table → byte l.table i ≡ started l.k i)

abbrev pub decreases-loop-k : goal.decreases-loop-k
decreases-loop-k l = l.n - l.k
