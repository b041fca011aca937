use mathlib.Core.Path.{refl}
use Rattle.switch.specs.Switches.{without_port}
use Rattle.switch.proofs.state.without_port.Goals as goal

pub returns : goal.returns
unfolding without_port
returns c = refl
