-- Document 02, request [1]: a player, byte by byte, and what a call of it takes. Assumes nothing.
use Rattle.std.specs.Prelude.{Bool, true, false, cond, ◌&&◌, ◌||◌, not, List, [], ◌∷◌, ℕ, suc, ◌^◌, ltb, eqb, set, replicate}
use Rattle.std.proofs.Math.Option.{Option, none, some}
use Rattle.words.specs.Bytes.{byte}
use Rattle.call_log.specs.declared.Record.{Record}
use Rattle.call_log.specs.declared.Stage.{Stage}
use Rattle.call_log.specs.declared.Stage.TheVariants.{Header, Records, Again, Broken}
use Rattle.call_log.specs.declared.Player.{Player}
use Rattle.call_log.specs.declared.End.{End}
use Rattle.call_log.specs.declared.End.TheVariants.{More, Whole, Wrong}
use Rattle.call_log.specs.declared.Scanned.{Scanned}
use Rattle.call_log.specs.Logs.{header, size_of, record_in}

abbrev pub player_of : Stage → (taken : ℕ) → (part : List ℕ) → (number : ℕ) → Player
player_of stage taken part number = record { stage = stage; taken = taken; part = part; number = number }

abbrev pub no_part : List ℕ
no_part = replicate 15 0

-- before the first byte of a log
abbrev pub fresh : Player
fresh = player_of Header 0 no_part 0

-- between two records
abbrev pub between : (number : ℕ) → Player
between number = player_of Records 0 no_part number

-- after a wrong byte
abbrev pub broken : Player → Player
broken p = player_of Broken 0 no_part p.number

-- ---- the players that go on: part of the header or of a record is taken, or all of a record that is to be tried again. Any other one answers 30

-- behind the kind byte of a record: of a line 0 or 1, else any byte
unfoldable pub fits_later : (kind b : ℕ) → Bool
fits_later kind b = not (eqb kind 2) || ltb b 2

unfoldable pub is_playing : Stage → (taken : ℕ) → (part : List ℕ) → Bool
is_playing Header taken part = ltb taken 5
is_playing Records taken part = eqb taken 0 || ltb taken (size_of (byte part 0))
is_playing Again taken part = ltb 0 taken && eqb taken (size_of (byte part 0)) && fits_later (byte part 0) (byte part 1)
is_playing Broken taken part = false

-- ---- one byte

-- behind `taken` bytes of a record: the first one is a kind
unfoldable pub fits_record : (taken kind b : ℕ) → Bool
fits_record taken kind b = cond (eqb taken 0) (ltb 0 (size_of b)) (fits_later kind b)

-- the byte fits: it is the next one of mark and version, or of a record
unfoldable pub fits : Player → (b : ℕ) → Bool
fits p b = by p.stage
  where
    by : Stage → Bool
    by Header = eqb b (byte header p.taken)
    by Records = fits_record p.taken (byte p.part 0) b
    by Again = false
    by Broken = false

-- with that byte taken
unfoldable pub with : Player → (b : ℕ) → Player
with p b = by p.stage
  where
    by : Stage → Player
    by Header = cond (eqb p.taken 4) (player_of Records 0 p.part p.number) (player_of Header (suc p.taken) p.part p.number)
    by Records = player_of Records (suc p.taken) (set p.part p.taken b) p.number
    by Again = p
    by Broken = p

-- its record is complete
unfoldable pub complete : Player → Bool
complete p = by p.stage
  where
    by : Stage → Bool
    by Header = false
    by Records = ltb 0 p.taken && eqb p.taken (size_of (byte p.part 0))
    by Again = false
    by Broken = false

-- ---- "each call takes what it is given up to the end of the first complete record", or up to the first wrong byte

-- with one more byte taken before it
abbrev pub further : Scanned → Scanned
further s = record { player = s.player; taken = suc s.taken; end = s.end }

unfoldable pub scan : Player → (bytes : List ℕ) → Scanned
scan p [] = record { player = p; taken = 0; end = More }
scan p (b ∷ l) =
    cond (fits p b)
    (cond (complete (with p b)) (record { player = with p b; taken = 1; end = Whole }) (further (scan (with p b) l)))
    (record { player = broken p; taken = 0; end = Wrong })

-- ---- what a call does before it meets the card

-- one more record is complete; past 2^64 - 1 the number stays there
unfoldable pub counted : (number : ℕ) → ℕ
counted n = cond (ltb (suc n) (2 ^ 64)) (suc n) n

-- the refusal of a call whose bytes end there, and whether its record is due
abbrev pub refusal_at : End → ℕ
refusal_at More = 0
refusal_at Whole = 0
refusal_at Wrong = 30

abbrev pub due_at : End → Bool
due_at More = false
due_at Whole = true
due_at Wrong = false

abbrev pub scanned_of : Player → (taken : ℕ) → End → Scanned
scanned_of p taken end = record { player = p; taken = taken; end = end }

-- after a wrong byte, and for a player that no log leaves behind: 30, and nothing changes
abbrev pub stopped : Player → Scanned
stopped p = scanned_of p 0 Wrong

-- a complete record is due
unfoldable pub scanned : Scanned → End → Scanned
scanned s More = scanned_of s.player s.taken More
scanned s Whole = scanned_of (player_of Records s.player.taken s.player.part (counted s.player.number)) s.taken Whole
scanned s Wrong = scanned_of s.player s.taken Wrong

-- "the next call only tries it again, taking 0 bytes"
unfoldable pub resumed : Stage → Player → (bytes : List ℕ) → Scanned
resumed Header p l = scanned (scan p l) (scan p l).end
resumed Records p l = scanned (scan p l) (scan p l).end
resumed Again p l = scanned_of p 0 Whole
resumed Broken p l = stopped p

unfoldable pub advanced : Player → (bytes : List ℕ) → Scanned
advanced p l = cond (is_playing p.stage p.taken p.part) (resumed p.stage p l) (stopped p)

-- the record that is due, if one is
unfoldable pub due_record : Scanned → Option Record
due_record a = cond (due_at a.end) (some (record_in a.player.part)) none

-- the record that a call of the player performs
abbrev pub played_record : Player → (bytes : List ℕ) → Option Record
played_record p l = due_record (advanced p l)
