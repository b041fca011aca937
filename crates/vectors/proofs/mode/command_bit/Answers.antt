-- A bit of one register, by `config_bit`. Assumes nothing.
use Rattle.model.specs.Vectors.{command_bit}
use Rattle.vectors.proofs.mode.command_bit.Goals as goal

pub returns : goal.returns
unfolding command_bit
returns c = λ t. c.config_bit.ensures
