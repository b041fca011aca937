-- Document 01, "What demand 3 compares": registers, open vectors and waiting bits by the start's input and the calls with their answers.
-- No card is read here. Assumes nothing.
use Rattle.std.specs.Prelude.{◌≡◌, Bool, true, false, not, cond, ◌&&◌, ◌||◌, ◌⊎◌, ℕ, ◌-◌, ◌<◌, ltb, eqb, length}
use mathlib.Core.List.{List, [], ◌∷◌, foldl}
use Rattle.std.proofs.Math.Option.{Option, none, some, get_or, map}
use Rattle.words.specs.Lists.{within, each_at}
use Rattle.words.specs.Bits.{bit, merge}
use Rattle.words.specs.Bytes.{byte, bytes_of}
use Rattle.model.specs.declared.Shape.{Shape}
use Rattle.model.specs.declared.Mode.{Mode}
use Rattle.model.specs.declared.Mode.TheVariants.{Pin, Msi, Msix}
use Rattle.model.specs.declared.Answer.{Answer}
use Rattle.model.specs.Answers.{is_accepted}
use Rattle.model.specs.Shape.{shape_of}
use Rattle.model.specs.Registers.{writable, entry_writable, in_table, started_config, started_table}
use Rattle.model.specs.World.{World, Registers}
use Rattle.model.specs.Vectors.{in_force, is_open, means}
use Rattle.model.specs.Start.{Given}
use Rattle.model.specs.Calls.{Call, config_read, config_write, bar_read, bar_write, event, line, reset, save, withdraw, Outcome, step}
use Rattle.model.specs.Trials.{wrote_bytes}
use Rattle.model.specs.Since.{Since, Every}

-- ---- a past: the calls with their answers and the bytes that they wrote, the latest first

pub record Entry : Type 0 where
  pub call : Call
  pub answer : Answer
  pub bytes : List ℕ

abbrev pub entry_of : Call → Answer → List ℕ → Entry
entry_of c a bytes = record { call = c; answer = a; bytes = bytes }

abbrev pub Past : Type 0
Past = List Entry

-- the world and the past after some calls
pub record Run : Type 0 where
  pub world : World
  pub past : Past

-- and after one more, which gets card and buffers as the last one left them
unfoldable pub called : Run → Call → Run
called r c =
    let o : Outcome = step r.world c in
    record { world = o.world; past = entry_of c o.answer (wrote_bytes o) ∷ r.past }

-- a list of calls on a world with no past
unfoldable pub run : World → List Call → Run
run w calls = foldl called (record { world = w; past = [] }) calls

-- ---- an accepted reset

unfoldable pub is_reset : Call → Bool
is_reset (config_read o n) = false
is_reset (config_write o n x out) = false
is_reset (bar_read b o n) = false
is_reset (bar_write b o n x out) = false
is_reset (event e out) = false
is_reset (line level out) = false
is_reset (reset out) = true
is_reset (save out) = false
is_reset (withdraw v) = false

unfoldable pub resets : Entry → Bool
resets x = is_accepted x.answer && is_reset x.call

-- ---- an accepted write, and what it reaches

-- a byte of the registers: byte i of the configuration, or of the table
pub data Location : Type 0 where
  config_byte : (i : ℕ) → Location
  table_byte : (i : ℕ) → Location

-- the byte that an access of n bytes at o with value x puts at place i, if it reaches it
unfoldable pub access_byte : (o n x i : ℕ) → Option ℕ
access_byte o n x i = cond (within o n i) (some (byte (bytes_of n x) (i - o))) none

-- the byte that a call puts at a location, if it is a write that reaches it
unfoldable pub puts : Shape → Call → Location → Option ℕ
puts s (config_read o n) a = none
puts s (config_write o n x out) (config_byte i) = access_byte o n x i
puts s (config_write o n x out) (table_byte i) = none
puts s (bar_read b o n) a = none
puts s (bar_write b o n x out) (config_byte i) = none
puts s (bar_write b o n x out) (table_byte i) = cond (in_table s b o) (access_byte (o - s.msix.table.at) n x i) none
puts s (event e out) a = none
puts s (line level out) a = none
puts s (reset out) a = none
puts s (save out) a = none
puts s (withdraw v) a = none

unfoldable pub wrote : Shape → Entry → Location → Option ℕ
wrote s x a = cond (is_accepted x.answer) (puts s x.call a) none

-- ---- the registers at a start, and after a past

unfoldable pub start_registers : Given → Registers
start_registers g =
    let s : Shape = shape_of g.config in
    record { config = started_config s g.config; table = started_table s.msix.vectors }

unfoldable pub writable_at : Shape → Location → ℕ
writable_at s (config_byte i) = writable s i
writable_at s (table_byte i) = entry_writable i

-- what the latest accepted write that reached a location put there since the start or the last accepted reset, or else d
unfoldable pub latest : Shape → Past → Location → ℕ → ℕ
latest s [] a d = d
latest s (x ∷ past) a d = cond (resets x) d (get_or (wrote s x a) (latest s past a d))

-- each byte of a list with its writable bits so; `at` says which location a place of the list is
unfoldable pub bytes_by : Shape → Past → (at : ℕ → Location) → List ℕ → List ℕ
bytes_by s past at l = each_at (λ i d. merge (writable_at s (at i)) d (latest s past (at i) d)) 0 l

unfoldable pub registers_by : Given → Past → Registers
registers_by g past =
    let s : Shape = shape_of g.config in
    let r : Registers = start_registers g in
    record { config = bytes_by s past config_byte r.config; table = bytes_by s past table_byte r.table }

-- ---- the same for one bit, in the demand's words

unfoldable pub byte_at : Registers → Location → ℕ
byte_at r (config_byte i) = byte r.config i
byte_at r (table_byte i) = byte r.table i

-- the registers have that byte
unfoldable pub Has : Registers → Location → Type 0
Has r (config_byte i) = i < length r.config
Has r (table_byte i) = i < length r.table

-- what an accepted write put at bit k of a location, if it reached that bit
unfoldable pub wrote_bit : Shape → Entry → Location → ℕ → Option Bool
wrote_bit s x a k = cond (bit (writable_at s a) k) (map (λ b. bit b k) (wrote s x a)) none

-- bit k of location a holds y: an accepted write that reached it put y there, and since then none reached it and there was no accepted reset;
-- or y is its value at a start, and none reached it since the last accepted reset, or since the start
abbrev pub Holds : Given → Past → Location → ℕ → Bool → Type 0
Holds g past a k y =
    let w : Entry → Option Bool = λ x. wrote_bit (shape_of g.config) x a k in
    let at_start : Type 0 = bit (byte_at (start_registers g) a) k ≡ y in
    Since (λ x before. w x ≡ some y) (λ x before. (w x ≡ none) × (resets x ≡ false)) past
    ⊎ (at_start × Since (λ x before. resets x ≡ true) (λ x before. w x ≡ none) past)
    ⊎ (at_start × Every (λ x before. (w x ≡ none) × (resets x ≡ false)) past)

-- ---- who is open, and what an event means, by the registers after a past

-- vector v of the mechanism m is open
unfoldable pub open_by : Given → Past → Mode → ℕ → Bool
open_by g past m v = is_open m (shape_of g.config) (registers_by g past) v

-- event e means vector v of the mechanism m, which is in force
unfoldable pub means_by : Given → Past → Mode → ℕ → ℕ → Bool
means_by g past m v e =
    let s : Shape = shape_of g.config in
    let r : Registers = registers_by g past in
    in_force m s r && means m s r e v

-- a call is an event for that vector
unfoldable pub is_event_for : Given → Past → Mode → ℕ → Call → Bool
is_event_for g past m v (config_read o n) = false
is_event_for g past m v (config_write o n x out) = false
is_event_for g past m v (bar_read b o n) = false
is_event_for g past m v (bar_write b o n x out) = false
is_event_for g past m v (event e out) = means_by g past m v e
is_event_for g past m v (line level out) = false
is_event_for g past m v (reset out) = false
is_event_for g past m v (save out) = false
is_event_for g past m v (withdraw x) = false

-- a call withdraws vector v of the mechanism m, which is in force
unfoldable pub is_withdrawal_of : Given → Past → Mode → ℕ → Call → Bool
is_withdrawal_of g past m v (config_read o n) = false
is_withdrawal_of g past m v (config_write o n x out) = false
is_withdrawal_of g past m v (bar_read b o n) = false
is_withdrawal_of g past m v (bar_write b o n x out) = false
is_withdrawal_of g past m v (event e out) = false
is_withdrawal_of g past m v (line level out) = false
is_withdrawal_of g past m v (reset out) = false
is_withdrawal_of g past m v (save out) = false
is_withdrawal_of g past m v (withdraw x) = in_force m (shape_of g.config) (registers_by g past) && eqb x v

-- ---- the waiting bit of a vector

-- an accepted event for the vector came while its mechanism was in force and the vector was shut, by the bits just before it
unfoldable pub held_by : Given → Mode → ℕ → Entry → Past → Bool
held_by g m v x before = is_accepted x.answer && is_event_for g before m v x.call && not (open_by g before m v)

-- an accepted reset clears the bit, and so does every call after which the vector is open, by the bits just after that call
unfoldable pub cleared_by : Given → Mode → ℕ → Entry → Past → Bool
cleared_by g m v x before = resets x || open_by g (x ∷ before) m v

-- such an event came, and since then there was no accepted reset and no call left the vector open, by the bits just after that call
abbrev pub WaitsBy : Given → Mode → ℕ → Past → Type 0
WaitsBy g m v = Since (λ x before. held_by g m v x before ≡ true) (λ x before. (resets x ≡ false) × (open_by g (x ∷ before) m v ≡ false))

-- ---- the same where withdrawals are among the calls

-- an accepted withdrawal of the vector while its mechanism was in force, by the bits just before it
unfoldable pub withdrawn_by : Given → Mode → ℕ → Entry → Past → Bool
withdrawn_by g m v x before = is_accepted x.answer && is_withdrawal_of g before m v x.call

-- an accepted reset ends the waiting, an accepted withdrawal of the vector does, and every call after which the vector is open, by the bits just after it
unfoldable pub ended_by : Given → Mode → ℕ → Entry → Past → Bool
ended_by g m v x before = resets x || (withdrawn_by g m v x before || open_by g (x ∷ before) m v)

-- none of the three
abbrev pub Keeps : Given → Mode → ℕ → Entry → Past → Type 0
Keeps g m v x before = (resets x ≡ false) × (withdrawn_by g m v x before ≡ false) × (open_by g (x ∷ before) m v ≡ false)

-- such an event came, and since then there was no accepted reset, no accepted withdrawal of the vector, and no call left the vector open, by the bits
-- just after that call
abbrev pub WaitsStill : Given → Mode → ℕ → Past → Type 0
WaitsStill g m v = Since (λ x before. held_by g m v x before ≡ true) (Keeps g m v)

-- a vector is an MSI-X one below N or an MSI one below 32
unfoldable pub is_vector : Shape → Mode → ℕ → Bool
is_vector s Pin v = false
is_vector s Msi v = ltb v 32
is_vector s Msix v = ltb v s.msix.vectors
