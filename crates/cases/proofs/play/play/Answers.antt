use Rattle.cases.specs.Steps.{step_of}
use Rattle.cases.proofs.RunLaws.{calls-card}
use Rattle.cases.proofs.play.play.Goals as goal

pub returns-in-New : goal.returns-in-New
unfolding step_of
returns-in-New g c = rw c.in-New.is c.lend.ensures

pub returns-in_default : goal.returns-in_default
unfolding step_of
returns-in_default g c = rw (calls-card c.args.row.kind c.in_default.not-New) c.play_call.ensures
