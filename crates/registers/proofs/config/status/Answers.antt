-- The two cases of the line. Assumes nothing.
use native.Mathlib.Nat.{add-zero}
use Rattle.words.specs.Bits.{of_bool}
use Rattle.registers.proofs.config.status.Goals as goal

pub returns-then-line : goal.returns-then-line
unfolding of_bool
returns-then-line c = rw c.if-line.true

pub returns-else-line : goal.returns-else-line
unfolding of_bool
returns-else-line c = rw (c.if-line.false, add-zero)
