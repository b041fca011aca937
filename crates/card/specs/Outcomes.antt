-- The code's outcome of a call, and the definitions' outcome that it stands for. Assumes nothing.
use Rattle.std.specs.Prelude.{false, List, ℕ}
use Rattle.model.specs.declared.Answer.{Answer}
use Rattle.model.specs.declared.Answer.TheVariants.{Refused}
use Rattle.model.specs.declared.Card.{Card}
use Rattle.model.specs.World.{world_of, zero_function}
use Rattle.model.specs.Answers.{kind_of, detail_of}
use Rattle.model.specs.Calls as Calls
use Rattle.card.specs.declared.answer.Code.{Code}
use Rattle.card.specs.declared.outcome.Outcome.{Outcome}

-- an answer's kind and number
abbrev pub code_of : Answer → Code
code_of a = record { kind = kind_of a; detail = detail_of a }

abbrev pub refused_with : Card → ℕ → Outcome
refused_with card n = record { card = card; answer = Refused n; count = 0 }

abbrev pub accepted_with : Card → Answer → ℕ → Outcome
accepted_with card answer count = record { card = card; answer = answer; count = count }

-- the card of a refused start
abbrev pub zero_card : Card
zero_card = record { function = zero_function; wire = false }

-- a result with the later contents of table, pending array and output
abbrev pub after : Outcome → (table pending output : List ℕ) → Calls.Outcome
after r table pending output = record { world = world_of r.card table pending; answer = r.answer; count = r.count; output = output }
