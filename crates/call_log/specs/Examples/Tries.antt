-- Request [1]: calls of a player from a fresh one on, each with what it gives, on a card that counts its calls. Assumes nothing.
use Rattle.std.specs.Prelude.{Bool, true, ◌&&◌, List, [], ◌∷◌, ◌++◌, ℕ, eqb, replicate}
use Rattle.words.specs.Lists.{same}
use Rattle.call_log.specs.declared.Player.{Player}
use Rattle.call_log.specs.Players.{fresh}
use Rattle.call_log.specs.Plays.{Played, play_of}
use Rattle.call_log.specs.Cuttings.{noted}
use Rattle.call_log.specs.Examples.Parts.{mark, event_bytes, line_bytes, config_bytes, bar_bytes, reset_bytes, refusals, counting, refused_with}

-- a call: its bytes and the length of its output; how many bytes it takes, its refusal, the refusal of the record that it tries, if it tries one,
-- and how many records and card calls there were so far
pub record Step : Type 0 where
  pub bytes : List ℕ
  pub room : ℕ
  pub taken : ℕ
  pub refusal : ℕ
  pub tried : List ℕ
  pub number : ℕ
  pub calls : ℕ

-- no record is complete
abbrev takes : (bytes : List ℕ) → (taken number calls : ℕ) → Step
takes bytes taken number calls = record { bytes = bytes; room = 0; taken = taken; refusal = 0; tried = []; number = number; calls = calls }

-- a record is tried, and the card answers with this refusal, 0 where it accepts
abbrev tries : (bytes : List ℕ) → (room taken answer number calls : ℕ) → Step
tries bytes room taken answer number calls =
    record { bytes = bytes; room = room; taken = taken; refusal = 0; tried = answer ∷ []; number = number; calls = calls }

-- 30
abbrev stops : (bytes : List ℕ) → (taken number calls : ℕ) → Step
stops bytes taken number calls = record { bytes = bytes; room = 0; taken = taken; refusal = 30; tried = []; number = number; calls = calls }

abbrev gives_from : Player → (calls : ℕ) → List Step → Bool
gives_from p calls [] = true
gives_from p calls (x ∷ l) =
    let r : Played ℕ = play_of (counting (replicate x.room 0)) p calls x.bytes in
    eqb r.taken x.taken && eqb r.refusal x.refusal && same (refusals (noted r.result)) x.tried && eqb r.player.number x.number
    && eqb r.world x.calls && gives_from r.player r.world l

abbrev pub all_give : List (List Step) → Bool
all_give [] = true
all_give (x ∷ l) = gives_from fresh 0 x && all_give l

-- "each call takes what it is given up to the end of the first complete record and tells how many bytes": mark, version and first record in one call
abbrev pub first_records : List Step
first_records =
    tries (mark ++ line_bytes ++ reset_bytes ++ bar_bytes ++ event_bytes) 0 7 0 1 1 ∷ tries (reset_bytes ++ bar_bytes ++ event_bytes) 0 1 0 2 2
    ∷ tries (bar_bytes ++ event_bytes) 0 15 0 3 3 ∷ tries event_bytes 0x1234 3 0 4 4 ∷ takes [] 0 4 4 ∷ []

-- "the log cut at any byte": in mark, version and record
abbrev pub cut_anywhere : List Step
cut_anywhere =
    takes (0x43 ∷ []) 1 0 0 ∷ takes [] 0 0 0 ∷ takes (0x4c ∷ 0x47 ∷ 1 ∷ []) 3 0 0 ∷ takes (0 ∷ 3 ∷ 4 ∷ []) 3 0 0 ∷ takes (0 ∷ 2 ∷ []) 2 0 0
    ∷ tries (1 ∷ 0 ∷ 0 ∷ 0 ∷ 5 ∷ []) 0 4 2 1 1 ∷ tries (5 ∷ []) 0 1 0 2 2 ∷ takes (2 ∷ []) 1 2 2 ∷ tries (1 ∷ 2 ∷ []) 0 1 0 3 3 ∷ []

-- "The first wrong byte .. is refusal 30; it and all after it are not taken, and every later call answers 30": in the mark
abbrev pub wrong_mark : List Step
wrong_mark = stops (0x43 ∷ 0x4c ∷ 0x46 ∷ 1 ∷ []) 2 0 0 ∷ stops (0x47 ∷ 1 ∷ 0 ∷ 5 ∷ []) 0 0 0 ∷ stops [] 0 0 0 ∷ stops (mark ++ reset_bytes) 0 0 0 ∷ []

-- a wrong kind behind a record
abbrev pub wrong_kind : List Step
wrong_kind = tries (mark ++ (5 ∷ 6 ∷ 5 ∷ [])) 0 6 0 1 1 ∷ stops (6 ∷ 5 ∷ []) 0 1 1 ∷ stops (5 ∷ []) 0 1 1 ∷ stops [] 0 1 1 ∷ []

-- a wrong line: its kind byte is taken beside 30
abbrev pub wrong_line : List Step
wrong_line = takes mark 5 0 0 ∷ stops (2 ∷ 2 ∷ 5 ∷ []) 1 0 0 ∷ stops (1 ∷ 5 ∷ []) 0 0 0 ∷ stops (2 ∷ 1 ∷ []) 0 0 0 ∷ []

-- "The card's own refusals are noted and play goes on": 1 to 5 and other numbers, 30 among them
abbrev pub noting : List Step
noting =
    tries (mark ++ refused_with 1) 0 13 1 1 1 ∷ tries (refused_with 2) 0 8 2 2 2 ∷ tries (refused_with 3) 0 8 3 3 3 ∷ tries (refused_with 4) 0 8 4 4 4
    ∷ tries (refused_with 5) 0 8 5 5 5 ∷ tries config_bytes 0 8 7 6 6 ∷ tries (refused_with 30) 0 8 30 7 7 ∷ tries reset_bytes 0 1 0 8 8 ∷ []

-- "except 6: the record's bytes count as taken, and the next call only tries it again, taking 0 bytes": event 3 has no room until the output has 3 bytes
abbrev pub trying_again : List Step
trying_again =
    tries (mark ++ (1 ∷ 3 ∷ 0 ∷ 5 ∷ [])) 2 8 6 1 1 ∷ tries (5 ∷ []) 2 0 6 1 2 ∷ tries [] 0 0 6 1 3 ∷ tries (6 ∷ 5 ∷ []) 3 0 0 1 4
    ∷ tries (5 ∷ []) 0 1 0 2 5 ∷ stops (6 ∷ []) 0 2 5 ∷ []

abbrev pub try_lists : List (List Step)
try_lists = first_records ∷ cut_anywhere ∷ wrong_mark ∷ wrong_kind ∷ wrong_line ∷ noting ∷ trying_again ∷ []
