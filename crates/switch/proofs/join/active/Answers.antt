use Rattle.switch.proofs.JoinLaws.{active-row}
use Rattle.switch.proofs.join.active.Goals as goal

pub returns : goal.returns
returns c = active-row _ _
