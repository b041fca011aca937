-- Each case of an answer in the papers' numbers. Assumes nothing.
use Rattle.std.specs.Prelude.{Bool, true, false, ◌&&◌, ℕ, eqb}
use Rattle.model.specs.declared.Answer.{Answer}
use Rattle.model.specs.declared.Answer.TheVariants.{Refused, Done, Value, Sent, Held, Merged, Lost}

-- the refusal's number, 0 for an accepted call
unfoldable pub refusal_of : Answer → ℕ
refusal_of (Refused n) = n
refusal_of Done = 0
refusal_of (Value x) = 0
refusal_of Sent = 0
refusal_of Held = 0
refusal_of Merged = 0
refusal_of Lost = 0

unfoldable pub is_accepted : Answer → Bool
is_accepted (Refused n) = false
is_accepted Done = true
is_accepted (Value x) = true
is_accepted Sent = true
is_accepted Held = true
is_accepted Merged = true
is_accepted Lost = true

-- the value read, or 1 for a withdrawn bit that was set; 0 for one that was not, beside a refusal and for any other call
unfoldable pub value_of : Answer → ℕ
value_of (Refused n) = 0
value_of Done = 0
value_of (Value x) = x
value_of Sent = 0
value_of Held = 0
value_of Merged = 0
value_of Lost = 0

-- sent, held, merged, lost as 1, 2, 3, 4; 0 for any other answer
unfoldable pub event_code : Answer → ℕ
event_code (Refused n) = 0
event_code Done = 0
event_code (Value x) = 0
event_code Sent = 1
event_code Held = 2
event_code Merged = 3
event_code Lost = 4

-- a number for each kind of answer
abbrev pub kind_of : Answer → ℕ
kind_of (Refused n) = 0
kind_of Done = 1
kind_of (Value x) = 2
kind_of Sent = 3
kind_of Held = 4
kind_of Merged = 5
kind_of Lost = 6

-- the number of a refusal, the value of a read or a withdrawal
abbrev pub detail_of : Answer → ℕ
detail_of (Refused n) = n
detail_of Done = 0
detail_of (Value x) = x
detail_of Sent = 0
detail_of Held = 0
detail_of Merged = 0
detail_of Lost = 0

-- two answers are the same
unfoldable pub same_answer : Answer → Answer → Bool
same_answer a b = eqb (kind_of a) (kind_of b) && eqb (detail_of a) (detail_of b)
