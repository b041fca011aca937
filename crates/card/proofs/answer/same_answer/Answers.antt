use Rattle.model.proofs.Calls.AnswerLaws.{same_answer_lem}
use Rattle.card.proofs.answer.same_answer.Goals as goal

pub returns : goal.returns
returns c =
    rw (same_answer_lem, c.code_of-x.ensures, c.code_of-y.ensures)
