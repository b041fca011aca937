-- The recorder of request [1]: the log of calls that were made, with their answers. Assumes nothing.
use Rattle.std.specs.Prelude.{Bool, false, cond, not, ◌&&◌, List, [], ◌∷◌, ◌++◌, ℕ, ltb, eqb, length, Result, Ok, Err}
use Rattle.std.proofs.Math.Option.{Option, none, some}
use Rattle.words.specs.Writers.{over}
use Rattle.model.specs.declared.Answer.{Answer}
use Rattle.model.specs.declared.Answer.TheVariants.{Refused, Done}
use Rattle.model.specs.Answers.{refusal_of, is_accepted}
use Rattle.model.specs.World.{World}
use Rattle.model.specs.Calls.{Call, is_withdrawal, step}
use Rattle.call_log.specs.declared.Record.{Record}
use Rattle.call_log.specs.declared.recorder.NoRoom.{NoRoom}
use Rattle.call_log.specs.Logs.{header, bytes_in, record_of}
use Rattle.call_log.specs.Players.{counted}
use Rattle.call_log.specs.Plays.{Performed}
use Rattle.call_log.specs.Cards.{shown}

-- ---- what the recorder appends

-- a call refused with 6 did nothing, and when played there is room: it is left out. Any other refused call is recorded
unfoldable pub is_kept : Answer → Bool
is_kept a = not (eqb (refusal_of a) 6)

unfoldable pub logged : Record → Answer → List ℕ
logged r a = cond (is_kept a) (bytes_in r) []

-- what a call of the recorder gives: `count` bytes of the output are new
pub record Appended : Type 0 where
  pub answer : Answer
  pub count : ℕ
  pub output : List ℕ

-- what the code hands back beside the output
abbrev pub appended_to : Result ℕ NoRoom → (output : List ℕ) → Appended
appended_to (Ok count) output = record { answer = Done; count = count; output = output }
appended_to (Err e) output = record { answer = Refused 6; count = 0; output = output }

-- too little room is 6, and nothing is written
unfoldable pub appended : (bytes out : List ℕ) → Appended
appended bytes out =
    cond (ltb (length out) (length bytes))
    (record { answer = Refused 6; count = 0; output = out })
    (record { answer = Done; count = length bytes; output = over bytes out })

-- ---- where a log ends

-- request [3]: an accepted withdrawal, whether its bit was set or not, has no record and ends the log
unfoldable pub ends_log : Call → Answer → Bool
ends_log c a = is_withdrawal c && is_accepted a

-- the calls from a card on that the log tells of: those before the first that ends it
unfoldable pub recorded_calls : World → List Call → List Call
recorded_calls w [] = []
recorded_calls w (c ∷ cs) = cond (ends_log c (step w c).answer) [] (c ∷ recorded_calls (step w c).world cs)

-- ---- the log of a list of calls from a card on; reads and saves have no record

unfoldable pub logged_call : Option Record → Answer → List ℕ
logged_call none a = []
logged_call (some r) a = logged r a

unfoldable pub logged_all : World → List Call → List ℕ
logged_all w [] = []
logged_all w (c ∷ cs) = logged_call (record_of c) (step w c).answer ++ logged_all (step w c).world cs

unfoldable pub log_of : World → List Call → List ℕ
log_of w calls = header ++ logged_all w calls

-- request [3]: the log of a list of calls, withdrawals among them
unfoldable pub log_told : World → List Call → List ℕ
log_told w calls = log_of w (recorded_calls w calls)

-- ---- what the recorded calls gave, in order; how many they are; and the card after all calls

unfoldable pub is_recorded : Option Record → Answer → Bool
is_recorded none a = false
is_recorded (some r) a = is_kept a

unfoldable pub given : World → List Call → List (Performed World)
given w [] = []
given w (c ∷ cs) = cond (is_recorded (record_of c) (step w c).answer) (shown (step w c) ∷ []) [] ++ given (step w c).world cs

unfoldable pub numbered : (number : ℕ) → World → List Call → ℕ
numbered n w [] = n
numbered n w (c ∷ cs) = numbered (cond (is_recorded (record_of c) (step w c).answer) (counted n) n) (step w c).world cs

unfoldable pub left : World → List Call → World
left w [] = w
left w (c ∷ cs) = left (step w c).world cs
