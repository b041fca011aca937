use mathlib.Core.Path.{sym}
use Rattle.model.proofs.Calls.AnswerLaws.{numbered, is_refused}
use Rattle.capi_switch.proofs.CrossingFor.{unrefused}
use Rattle.capi_switch.proofs.bytes.number_of.Goals as goal

pub returns-in-Refused : goal.returns-in-Refused
returns-in-Refused c = rw c.in-Refused.is (sym (numbered _ _ _ _ (is_refused _)).0)

pub returns-in_default : goal.returns-in_default
returns-in_default c = unrefused c.args.answer c.in_default.not-Refused
