-- The rows below place k are the wires of the ports. Assumes nothing.
use Rattle.std.proofs.Common.{◌≡◌, ℕ, ◌<◌, [], get_or, length}
use Rattle.switch.specs.Switches.{wires_of}
use Rattle.switch.proofs.join.levels.Given as goal

abbrev pub invariant-loop-k : goal.invariant-loop-k
invariant-loop-k l = (length l.rows ≡ 8) × ((j : ℕ) → j < l.k → get_or l.rows j [] ≡ wires_of l.fn.s j)
