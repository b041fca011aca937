-- The stages of a player as bytes. Assumes nothing.
use Rattle.std.specs.Prelude.{cond, ℕ, eqb}
use Rattle.call_log.specs.declared.Stage.{Stage}
use Rattle.call_log.specs.declared.Stage.TheVariants.{Header, Records, Again, Broken}

unfoldable pub stage_byte : Stage → ℕ
stage_byte Header = 0
stage_byte Records = 1
stage_byte Again = 2
stage_byte Broken = 3

unfoldable pub stage_of : ℕ → Stage
stage_of b = cond (eqb b 0) Header (cond (eqb b 1) Records (cond (eqb b 2) Again Broken))
