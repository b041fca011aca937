use mathlib.Core.Path.{refl}
use Rattle.switch.specs.Switches.{fresh}
use Rattle.switch.proofs.state.start.Goals as goal

pub returns : goal.returns
unfolding fresh
returns c = refl
