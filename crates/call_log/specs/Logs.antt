-- Document 02, request [1]: the bytes of a log, and the calls that its records are. Assumes nothing.
use Rattle.std.specs.Prelude.{◌≡◌, true, cond, List, [], ◌∷◌, ◌++◌, ℕ, ◌^◌, ◌<◌, eqb}
use Rattle.std.proofs.Math.Option.{Option, none, some}
use Rattle.words.specs.Lists.{first_of}
use Rattle.words.specs.Bits.{of_bool}
use Rattle.words.specs.Bytes.{byte, word16, word32, word64, bytes_of}
use Rattle.model.specs.Calls.{Call, config_read, config_write, bar_read, bar_write, event, line, reset, save, withdraw}
use Rattle.call_log.specs.declared.Record.{Record}
use Rattle.call_log.specs.declared.Record.TheVariants.{Event, Line, ConfigWrite, BarWrite, Reset}

-- "CLG", and version 1 in 16 bits
unfoldable pub header : List ℕ
header = 0x43 ∷ 0x4c ∷ 0x47 ∷ 1 ∷ 0 ∷ []

-- how many bytes a record of a kind has, its kind byte among them; 0 for what is no kind
unfoldable pub size_of : (kind : ℕ) → ℕ
size_of kind = first_of ((3, eqb kind 1) ∷ (2, eqb kind 2) ∷ (8, eqb kind 3) ∷ (15, eqb kind 4) ∷ (1, eqb kind 5) ∷ [])

-- the bytes of a record, kind byte first, numbers little-endian: 1, event (16 bits); 2, line (one byte, 0 or 1);
-- 3, configuration write (offset 16, width 8, value 32); 4, BAR write (BAR 8, offset 32, width 8, value 64); 5, reset
unfoldable pub bytes_in : Record → List ℕ
bytes_in (Event e) = 1 ∷ bytes_of 2 e
bytes_in (Line level) = 2 ∷ of_bool level ∷ []
bytes_in (ConfigWrite o n x) = 3 ∷ bytes_of 2 o ++ (n ∷ bytes_of 4 x)
bytes_in (BarWrite b o n x) = 4 ∷ b ∷ bytes_of 4 o ++ (n ∷ bytes_of 8 x)
bytes_in Reset = 5 ∷ []

-- the record whose bytes stand at the start of a list
unfoldable pub record_in : List ℕ → Record
record_in l =
    cond (eqb (byte l 0) 1) (Event (word16 l 1))
    (cond (eqb (byte l 0) 2) (Line (eqb (byte l 1) 1))
    (cond (eqb (byte l 0) 3) (ConfigWrite (word16 l 1) (byte l 3) (word32 l 4))
    (cond (eqb (byte l 0) 4) (BarWrite (byte l 1) (word32 l 2) (byte l 6) (word64 l 7))
    Reset)))

-- the call that a record is, with an output lent to it
unfoldable pub call_of : Record → (out : List ℕ) → Call
call_of (Event e) out = event e out
call_of (Line level) out = line level out
call_of (ConfigWrite o n x) out = config_write o n x out
call_of (BarWrite b o n x) out = bar_write b o n x out
call_of Reset out = reset out

-- the record of a call; reads and saves, which change nothing, have none, nor has a withdrawal
unfoldable pub record_of : Call → Option Record
record_of (config_read o n) = none
record_of (config_write o n x out) = some (ConfigWrite o n x)
record_of (bar_read b o n) = none
record_of (bar_write b o n x out) = some (BarWrite b o n x)
record_of (event e out) = some (Event e)
record_of (line level out) = some (Line level)
record_of (reset out) = some Reset
record_of (save out) = none
record_of (withdraw v) = none

-- the numbers of a record fit its bytes, as the declared types say
abbrev pub Fits : Record → Type 0
Fits (Event e) = e < 256 ^ 2
Fits (Line level) = true ≡ true
Fits (ConfigWrite o n x) = (o < 256 ^ 2) × (n < 256) × (x < 256 ^ 4)
Fits (BarWrite b o n x) = (b < 256) × (o < 256 ^ 4) × (n < 256) × (x < 256 ^ 8)
Fits Reset = true ≡ true

-- and those of a call that has a record
abbrev pub FitsIn : Option Record → Type 0
FitsIn none = true ≡ true
FitsIn (some r) = Fits r

pub data AllFit : List Call → Type 0 where
  no_more : AllFit []
  one_more : {c : Call} {cs : List Call} → FitsIn (record_of c) → AllFit cs → AllFit (c ∷ cs)
