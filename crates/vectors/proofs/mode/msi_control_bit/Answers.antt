-- A bit of one register, by `config_bit`. Assumes nothing.
use native.Mathlib.Omega.{arith}
use Rattle.model.proofs.Shapes.PlaceLaws.{size_large}
use Rattle.model.specs.Vectors.{msi_control_bit}
use Rattle.vectors.proofs.mode.msi_control_bit.Goals as goal

pub config_bit-requires : goal.config_bit-requires
config_bit-requires c = omega (arith, size_large c.args.s)

pub returns : goal.returns
unfolding msi_control_bit
returns c = λ t. c.config_bit.ensures
