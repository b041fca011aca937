-- Request [1]: the states of a player, those that no log leaves among them, and the number of its records. Assumes nothing.
use Rattle.std.specs.Prelude.{List, [], ◌∷◌, ◌++◌, ℕ, replicate, take}
use Rattle.words.specs.Bits.{of_bool}
use Rattle.call_log.specs.declared.Stage.TheVariants.{Header, Records, Again}
use Rattle.call_log.specs.declared.Player.{Player}
use Rattle.call_log.specs.declared.Scanned.{Scanned}
use Rattle.call_log.specs.Players.{player_of, no_part, fresh, between, broken, counted, refusal_at, due_at, advanced}
use Rattle.call_log.specs.Plays.{play_of}
use Rattle.call_log.specs.Examples.Parts.{mark, event_bytes, line_bytes, bar_bytes, reset_bytes, equal, player_fields, counting}

-- ---- a player: header 0, records 1, again 2 or broken 3; bytes taken; records complete; the bytes of a record, 15 at most

abbrev leaves : Player → (bytes fields part : List ℕ) → List (ℕ × ℕ)
leaves p bytes fields part = equal (fields ++ take 15 (part ++ replicate 15 0)) (player_fields (play_of (counting []) p 0 bytes).player) ∷ []

-- what a call leaves: of the header; of a record; after an accepted one; after a 6 (event 1234h has no room); after a wrong byte
abbrev pub fields : List (ℕ × ℕ)
fields =
    leaves fresh [] (0 ∷ 0 ∷ 0 ∷ []) [] ++ leaves fresh (take 4 mark) (0 ∷ 4 ∷ 0 ∷ []) [] ++ leaves fresh mark (1 ∷ 0 ∷ 0 ∷ []) []
    ++ leaves (between 7) [] (1 ∷ 0 ∷ 7 ∷ []) [] ++ leaves (between 7) (1 ∷ 0x34 ∷ []) (1 ∷ 2 ∷ 7 ∷ []) (1 ∷ 0x34 ∷ [])
    ++ leaves (between 7) line_bytes (1 ∷ 0 ∷ 8 ∷ []) [] ++ leaves (between 7) event_bytes (2 ∷ 3 ∷ 8 ∷ []) event_bytes
    ++ leaves (between 7) (2 ∷ 9 ∷ []) (3 ∷ 0 ∷ 7 ∷ []) [] ++ leaves (broken (between 7)) mark (3 ∷ 0 ∷ 7 ∷ []) []

-- ---- players by hand: which go on, and which answer 30 and stay as they are

abbrev event_part : List ℕ
event_part = event_bytes ++ replicate 12 0

-- with one byte: how many it takes, and whether a record is due
abbrev goes_on : Player → (b taken due : ℕ) → List (ℕ × ℕ)
goes_on p b taken due =
    let a : Scanned = advanced p (b ∷ []) in
    (taken, a.taken) ∷ (0, refusal_at a.end) ∷ (due, of_bool (due_at a.end)) ∷ []

abbrev stops : Player → List (ℕ × ℕ)
stops p =
    let a : Scanned = advanced p reset_bytes in
    (0, a.taken) ∷ (30, refusal_at a.end) ∷ (0, of_bool (due_at a.end)) ∷ equal (player_fields p) (player_fields a.player) ∷ []

-- five bytes of a header, all bytes of a record, no kind; to be tried again with other than all bytes of a record, or with a level that is none
abbrev pub strays : List (ℕ × ℕ)
strays =
    goes_on (player_of Header 4 no_part 7) 0 1 0 ++ stops (player_of Header 5 no_part 7) ++ stops (player_of Header 6 no_part 7)
    ++ goes_on (player_of Records 0 event_part 7) 5 1 1 ++ goes_on (player_of Records 1 event_part 7) 5 1 0 ++ goes_on (player_of Records 2 event_part 7) 5 1 1
    ++ stops (player_of Records 3 event_part 7) ++ stops (player_of Records 4 event_part 7)
    ++ stops (player_of Records 1 no_part 7) ++ stops (player_of Records 1 (6 ∷ replicate 14 0) 7)
    ++ goes_on (player_of Again 1 (5 ∷ replicate 14 0) 7) 5 0 1 ++ goes_on (player_of Again 15 bar_bytes 7) 5 0 1 ++ goes_on (player_of Again 3 event_part 7) 5 0 1
    ++ stops (player_of Again 2 event_part 7) ++ stops (player_of Again 4 event_part 7)
    ++ stops (player_of Again 0 event_part 7) ++ stops (player_of Again 0 no_part 7) ++ stops (broken (between 7))
    ++ goes_on (player_of Again 2 (2 ∷ 0 ∷ 2 ∷ replicate 12 0) 7) 5 0 1 ++ goes_on (player_of Again 2 (2 ∷ 1 ∷ 2 ∷ replicate 12 0) 7) 5 0 1
    ++ stops (player_of Again 2 (2 ∷ 2 ∷ replicate 13 0) 7) ++ stops (player_of Again 2 (2 ∷ 0xff ∷ replicate 13 0) 7)
    ++ goes_on (player_of Again 3 (1 ∷ 2 ∷ 2 ∷ replicate 12 0) 7) 5 0 1

-- ---- the number of complete records: past 2^64 - 1 it stays there

abbrev number_behind : (number : ℕ) → (bytes : List ℕ) → ℕ
number_behind number bytes = (play_of (counting []) (between number) 0 bytes).player.number

abbrev pub numbers : List (ℕ × ℕ)
numbers =
    (1, counted 0) ∷ (18446744073709551615, counted 18446744073709551614) ∷ (18446744073709551615, counted 18446744073709551615)
    ∷ (1, number_behind 0 reset_bytes) ∷ (0, number_behind 0 (1 ∷ 0x34 ∷ [])) ∷ (1, number_behind 0 event_bytes) ∷ (0, number_behind 0 (6 ∷ []))
    ∷ (18446744073709551615, number_behind 18446744073709551614 reset_bytes) ∷ (18446744073709551615, number_behind 18446744073709551615 reset_bytes) ∷ []

abbrev pub states : List (ℕ × ℕ)
states = fields ++ strays ++ numbers
