-- `data_bytes` meets its contract. Assumes nothing.
use mathlib.Core.Path.{◌≡◌}
use mathlib.Core.Bool.{Bool, true, false, cond}
use native.Mathlib.Omega.{arith}
use Rattle.model.specs.declared.Shape.{Shape}
use Rattle.model.specs.Registers.{data_bytes}
use Rattle.registers.proofs.masks.data_bytes.Goals as goal

by_bit : (s : Shape) (b : Bool) → s.msi.extended ≡ b → cond b 4 2 ≡ data_bytes s
unfolding data_bytes
by_bit s b e = rw e

pub returns-then-s : goal.returns-then-s
returns-then-s c = (by_bit c.args.s true c.if-s.true, omega arith)

pub returns-else-s : goal.returns-else-s
returns-else-s c = (by_bit c.args.s false c.if-s.false, omega arith)
