-- A bit of one register, by `config_bit`. Assumes nothing.
use Rattle.model.specs.Vectors.{msix_control_bit}
use Rattle.vectors.proofs.mode.msix_control_bit.Goals as goal

pub returns : goal.returns
unfolding msix_control_bit
returns c = λ t. c.config_bit.ensures
