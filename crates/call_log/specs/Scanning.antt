-- What the functions that take the bytes of a log promise each other. Assumes nothing.
use Rattle.std.specs.Prelude.{cond, ◌||◌, not, List, ℕ, ◌+◌, ltb, length, drop, Option, None}
use Rattle.words.specs.Bytes.{byte}
use Rattle.call_log.specs.declared.Stage.TheVariants.{Broken}
use Rattle.call_log.specs.declared.Player.{Player}
use Rattle.call_log.specs.declared.End.TheVariants.{Wrong}
use Rattle.call_log.specs.declared.Scanned.{Scanned}
use Rattle.call_log.specs.Logs.{size_of}
use Rattle.call_log.specs.Kinds.{size_in}
use Rattle.call_log.specs.Players.{player_of, no_part, fits_later, scan}

-- with n bytes taken before it
abbrev pub behind : (n : ℕ) → Scanned → Scanned
behind n s = record { player = s.player; taken = n + s.taken; end = s.end }

-- from a place of a log on, the bytes before it taken
unfoldable pub scan_from : (from : ℕ) → Player → (log : List ℕ) → Scanned
scan_from from p log = behind from (scan p (drop from log))

-- a wrong byte behind `taken` others
abbrev pub broken_at : (number taken : ℕ) → Scanned
broken_at number taken = record { player = player_of Broken 0 no_part number; taken = taken; end = Wrong }

-- how many bytes the record has that stands whole at the start of a log, if one does
unfoldable pub whole_in : (log : List ℕ) → Option ℕ
whole_in l = cond (ltb (length l) (size_of (byte l 0)) || not (fits_later (byte l 0) (byte l 1))) None (size_in (byte l 0))
