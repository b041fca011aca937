-- The rows below place k are turned. Assumes nothing.
use Rattle.std.proofs.Common.{◌≡◌, ℕ, ◌<◌, [], get_or, length}
use Rattle.switch.specs.Joined.{turned_by}
use Rattle.switch.proofs.join.mapped.Given as goal

abbrev pub invariant-loop-k : goal.invariant-loop-k
invariant-loop-k l = (length l.rows ≡ 8) × ((j : ℕ) → j < l.k → get_or l.rows j [] ≡ turned_by j (get_or l.fn.l j []))
