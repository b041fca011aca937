-- What the worked examples of a log are made of: records byte by byte, the fields of records, calls and players, and a small card. Assumes nothing.
use Rattle.std.specs.Prelude.{cond, List, [], ◌∷◌, ◌++◌, ℕ, suc, ◌+◌, ltb, length}
use Rattle.words.specs.Lists.{same}
use Rattle.words.specs.Bits.{of_bool}
use Rattle.model.specs.declared.Answer.{Answer}
use Rattle.model.specs.declared.Answer.TheVariants.{Refused, Done, Held}
use Rattle.model.specs.Answers.{refusal_of}
use Rattle.model.specs.Calls.{Call, config_read, config_write, bar_read, bar_write, event, line, reset, save, withdraw}
use Rattle.call_log.specs.declared.Record.{Record}
use Rattle.call_log.specs.declared.Record.TheVariants.{Event, Line, ConfigWrite, BarWrite, Reset}
use Rattle.call_log.specs.declared.Stage.{Stage}
use Rattle.call_log.specs.declared.Stage.TheVariants.{Header, Records, Again, Broken}
use Rattle.call_log.specs.declared.Player.{Player}
use Rattle.call_log.specs.Plays.{Performed}

-- ---- bytes by hand

-- "CLG", and version 1
abbrev pub mark : List ℕ
mark = 0x43 ∷ 0x4c ∷ 0x47 ∷ 1 ∷ 0 ∷ []

-- event 1234h
abbrev pub event_bytes : List ℕ
event_bytes = 1 ∷ 0x34 ∷ 0x12 ∷ []

-- line 1
abbrev pub line_bytes : List ℕ
line_bytes = 2 ∷ 1 ∷ []

-- configuration write: offset 3456h, width 7, value 89ABCDEFh
abbrev pub config_bytes : List ℕ
config_bytes = 3 ∷ 0x56 ∷ 0x34 ∷ 7 ∷ 0xef ∷ 0xcd ∷ 0xab ∷ 0x89 ∷ []

-- BAR write: BAR 5, offset 12345678h, width 9, value FEDCBA9876543210h
abbrev pub bar_bytes : List ℕ
bar_bytes = 4 ∷ 5 ∷ 0x78 ∷ 0x56 ∷ 0x34 ∷ 0x12 ∷ 9 ∷ 0x10 ∷ 0x32 ∷ 0x54 ∷ 0x76 ∷ 0x98 ∷ 0xba ∷ 0xdc ∷ 0xfe ∷ []

abbrev pub reset_bytes : List ℕ
reset_bytes = 5 ∷ []

-- ---- rows and fields

-- a row: the two lists are equal
abbrev pub equal : List ℕ → List ℕ → ℕ × ℕ
equal expected found = (1, of_bool (same expected found))

-- the kind of a record, then its fields in the order of its bytes
abbrev pub record_fields : Record → List ℕ
record_fields (Event e) = 1 ∷ e ∷ []
record_fields (Line level) = 2 ∷ of_bool level ∷ []
record_fields (ConfigWrite o n x) = 3 ∷ o ∷ n ∷ x ∷ []
record_fields (BarWrite b o n x) = 4 ∷ b ∷ o ∷ n ∷ x ∷ []
record_fields Reset = 5 ∷ []

-- the same for a call, with its output behind; reads, saves and withdrawals have no kind
abbrev pub call_fields : Call → List ℕ
call_fields (config_read o n) = 0 ∷ []
call_fields (config_write o n x out) = 3 ∷ o ∷ n ∷ x ∷ out
call_fields (bar_read b o n) = 0 ∷ []
call_fields (bar_write b o n x out) = 4 ∷ b ∷ o ∷ n ∷ x ∷ out
call_fields (event e out) = 1 ∷ e ∷ out
call_fields (line level out) = 2 ∷ of_bool level ∷ out
call_fields (reset out) = 5 ∷ out
call_fields (save out) = 0 ∷ []
call_fields (withdraw v) = 0 ∷ []

-- header 0, records 1, again 2, broken 3; bytes taken; records complete; the 15 bytes of the part
abbrev stage_number : Stage → ℕ
stage_number Header = 0
stage_number Records = 1
stage_number Again = 2
stage_number Broken = 3

abbrev pub player_fields : Player → List ℕ
player_fields p = stage_number p.stage ∷ p.taken ∷ p.number ∷ p.part

abbrev pub refusals : {W : Type 0} → List (Performed W) → List ℕ
refusals [] = []
refusals (r ∷ rs) = refusal_of r.answer ∷ refusals rs

-- with the packets of each behind its refusal
abbrev pub answers : {W : Type 0} → List (Performed W) → List ℕ
answers [] = []
answers (r ∷ rs) = refusal_of r.answer ∷ r.bytes ++ answers rs

-- ---- a card that counts its calls: an event is refused with 6 where the output is shorter than its number, a configuration write with its width.
-- What it sends is one byte: 10 and the number of calls before

abbrev answer_to : (room : ℕ) → Record → Answer
answer_to room (Event e) = cond (ltb room e) (Refused 6) Held
answer_to room (Line level) = Done
answer_to room (ConfigWrite o n x) = Refused n
answer_to room (BarWrite b o n x) = Done
answer_to room Reset = Done

abbrev pub counting : (out : List ℕ) → ℕ → Record → Performed ℕ
counting out calls r = record { world = suc calls; answer = answer_to (length out) r; bytes = (10 + calls) ∷ [] }

-- a configuration write that this card refuses with n
abbrev pub refused_with : (n : ℕ) → List ℕ
refused_with n = 3 ∷ 4 ∷ 0 ∷ n ∷ 0 ∷ 0 ∷ 0 ∷ 0 ∷ []
