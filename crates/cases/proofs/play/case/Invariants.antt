-- The rows that are left, played from here, give what all rows give. Assumes nothing.
use Rattle.std.proofs.Common.{◌≡◌, ◌-◌, ◌*◌, drop}
use Rattle.model.specs.Play.{played_all, unplayed}
use Rattle.cases.specs.Steps.{case_steps, row_count}
use Rattle.cases.specs.Runs.{seen}
use Rattle.cases.proofs.play.case.Given as goal

abbrev pub invariant-loop-i : goal.invariant-loop-i
invariant-loop-i g l =
    played_all (seen l.run) (case_steps l.number l.bytes (row_count - l.i) (drop (45 * l.i) l.rows))
    ≡ played_all unplayed (case_steps l.number l.bytes row_count l.rows)
