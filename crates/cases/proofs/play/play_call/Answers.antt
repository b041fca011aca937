-- The outcome is the model's, and what it is compared with is the row's. Assumes nothing.
use mathlib.Core.Path.{ap, ◌∙◌}
use mathlib.Core.List.{[]}
use Rattle.model.specs.Play.{right}
use Rattle.model.proofs.Calls.PlayLaws.{right_by}
use Rattle.card.specs.Outcomes.{after}
use Rattle.cases.specs.Runs.{seen}
use Rattle.cases.proofs.RunLaws.{plays}
use Rattle.cases.proofs.play.play_call.Goals as goal

pub returns : goal.returns
returns g c =
    let args = c.args in
    let called = c.call-called in
    ap seen c.judge-after.ensures
    ∙ plays args.run args.bytes.now args.row called.result called.ensures _ _ _
    (right_by (after called.result.outcome [] [] c.part-sent.result.now) _ c.part-expected.result.now c.part.result.now _ _
    c.same_answer.ensures c.is_over.ensures
    ∙ (λ i.
    right (after called.result.outcome [] [] (c.part-sent.ensures i)) args.row.answer (c.part-expected.ensures i)
    (c.part.ensures i)))
