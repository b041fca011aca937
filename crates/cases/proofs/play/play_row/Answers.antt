use mathlib.Core.Path.{ap, ◌∙◌}
use mathlib.Core.List.{List}
use Rattle.model.specs.Play.{Step, played_all}
use Rattle.model.proofs.Calls.PlayLaws.{played-none, played-one}
use Rattle.cases.specs.Runs.{seen}
use Rattle.cases.proofs.RunLaws.{of_case, of_other}
use Rattle.cases.proofs.play.play_row.Goals as goal

pub returns-then-row-number : goal.returns-then-row-number
returns-then-row-number g c =
    let args = c.args in
    played-one _ _ _ c.play.ensures
    ∙ ap (λ (l : List Step). played_all (seen args.run) l) (of_case args.number args.bytes.now args.row c.if-row-number.true)

pub returns : goal.returns
returns g c =
    let args = c.args in
    played-none _ ∙ ap (λ (l : List Step). played_all (seen args.run) l) (of_other args.number args.bytes.now args.row c.if-row-number.false)
