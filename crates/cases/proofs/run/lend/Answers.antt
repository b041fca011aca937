use Rattle.cases.proofs.RunLaws.{lends_new}
use Rattle.cases.proofs.run.lend.Goals as goal

pub returns : goal.returns
returns c =
    let args = c.args in
    lends_new args.run _ args.vectors c.min.ensures
