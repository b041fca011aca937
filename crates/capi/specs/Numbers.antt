-- An answer as numbers. Assumes nothing.
use Rattle.std.specs.Prelude.{ℕ}
use Rattle.model.specs.declared.Answer.{Answer}
use Rattle.model.specs.Answers.{refusal_of, value_of, event_code}
use Rattle.capi.specs.declared.bytes.Numbers.{Numbers}

abbrev pub numbers : (refusal value event : ℕ) → Numbers
numbers refusal value event = record { refusal = refusal; value = value; event = event }

abbrev pub numbers_of : Answer → Numbers
numbers_of answer = numbers (refusal_of answer) (value_of answer) (event_code answer)
