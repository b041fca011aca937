use Rattle.switch.specs.Switches.{with_level}
use Rattle.switch.proofs.state.with_level.Goals as goal

pub returns : goal.returns
unfolding with_level
returns c = rw c.wires-kept.ensures
