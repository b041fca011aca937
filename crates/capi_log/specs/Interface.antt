-- The numbers of the logs' interface, each beside the one that the definitions give. Assumes nothing.
use Rattle.std.specs.Prelude.{List, [], ◌∷◌, ◌++◌, ℕ, replicate, set}
use Rattle.std.proofs.Math.Option.{Option, none, some}
use Rattle.words.specs.Lists.{same}
use Rattle.words.specs.Bits.{of_bool}
use Rattle.call_log.specs.declared.Record.{Record}
use Rattle.call_log.specs.declared.Stage.TheVariants.{Header, Records, Again, Broken}
use Rattle.call_log.specs.Logs.{bytes_in}
use Rattle.call_log.specs.Players.{player_of}
use Rattle.capi_log.specs.Crossing.{stage_byte, player_bytes, player_in, played}
use Rattle.capi_log.specs.Recording.{record_of, wrote_record}

-- what is returned for n bytes of a card and m of a player, all 0 but for the first of each, and no log
abbrev of_play : (n flags m stage : ℕ) → ℕ
of_play n flags m stage = (played (set (replicate n 0) 0 flags) [] [] (set (replicate m 0) 0 stage) [] []).returned

abbrev refusals : List (ℕ × ℕ)
refusals =
    -- 289 bytes of a card with line and wire alone in its flags, 25 of a player in one of four stages
    (0, of_play 289 0 25 0)
    ∷ (60, of_play 288 0 25 0)
    ∷ (60, of_play 290 0 25 0)
    ∷ (0, of_play 289 3 25 0)
    ∷ (60, of_play 289 4 25 0)
    ∷ (60, of_play 289 0 24 0)
    ∷ (60, of_play 289 0 26 0)
    ∷ (0, of_play 289 0 25 1)
    ∷ (30, of_play 289 0 25 2)
    ∷ (30, of_play 289 0 25 3)
    ∷ (60, of_play 289 0 25 4)
    ∷ []

-- stage, bytes taken, 15 bytes of a record, and the number of complete records, low byte first
abbrev held : List ℕ
held = 4 ∷ 0 ∷ 0x10 ∷ 0x20 ∷ 0x30 ∷ 0x40 ∷ 8 ∷ 1 ∷ 2 ∷ 3 ∷ 4 ∷ 5 ∷ 6 ∷ 7 ∷ 9 ∷ []

abbrev written : List ℕ
written = 2 ∷ 15 ∷ held ++ (0x08 ∷ 0x07 ∷ 0x06 ∷ 0x05 ∷ 0x04 ∷ 0x03 ∷ 0x02 ∷ 0x01 ∷ [])

abbrev bytes : List (ℕ × ℕ)
bytes =
    (1, of_bool (same (player_bytes (player_of Again 15 held 0x0102030405060708)) written))
    ∷ (1, of_bool (same (player_bytes (player_in written)) written))
    ∷ (15, (player_in written).taken)
    ∷ (0x0102030405060708, (player_in written).number)
    ∷ (0, stage_byte Header)
    ∷ (1, stage_byte Records)
    ∷ (2, stage_byte Again)
    ∷ (3, stage_byte Broken)
    ∷ []

-- the bytes of the record of a kind with these numbers; none for what is no record
abbrev record_bytes : Option Record → List ℕ
record_bytes none = []
record_bytes (some r) = bytes_in r

abbrev is_record : (kind bar offset width value : ℕ) → List ℕ → ℕ
is_record kind bar offset width value l = of_bool (same (record_bytes (record_of kind bar offset width value)) l)

-- what is returned for a record of a kind, and how many bytes it has
abbrev of_record : (kind value refusal room : ℕ) → ℕ
of_record kind value refusal room = (wrote_record (record_of kind 0 0 0 value) refusal (replicate room 0)).returned

abbrev count_of : (kind refusal room : ℕ) → ℕ
count_of kind refusal room = (wrote_record (record_of kind 0 0 0 0) refusal (replicate room 0)).count

abbrev records : List (ℕ × ℕ)
records =
    -- kinds 1 to 5
    (60, of_record 0 0 0 15)
    ∷ (0, of_record 1 0 0 15)
    ∷ (0, of_record 5 0 0 15)
    ∷ (60, of_record 6 0 0 15)
    ∷ (60, of_record 257 0 0 15)
    -- a configuration write's value has 32 bits
    ∷ (0, of_record 3 0xffffffff 0 15)
    ∷ (60, of_record 3 0x100000000 0 15)
    -- room, and a call that was refused with 6
    ∷ (3, count_of 1 0 3)
    ∷ (6, of_record 1 0 0 2)
    ∷ (0, count_of 1 0 2)
    ∷ (0, of_record 1 0 6 0)
    ∷ (0, count_of 1 6 15)
    ∷ (3, count_of 1 5 15)
    ∷ (15, count_of 4 0 15)
    -- the largest number that fits, in place of a wider one
    ∷ (1, is_record 1 0 0 0 0x10000 (1 ∷ 0xff ∷ 0xff ∷ []))
    ∷ (1, is_record 1 0 0 0 0xfffe (1 ∷ 0xfe ∷ 0xff ∷ []))
    ∷ (1, is_record 2 0 0 0 256 (2 ∷ 1 ∷ []))
    ∷ (1, is_record 2 0 0 0 0 (2 ∷ 0 ∷ []))
    ∷ (1, is_record 3 0 0x10000 256 7 (3 ∷ 0xff ∷ 0xff ∷ 0xff ∷ 7 ∷ 0 ∷ 0 ∷ 0 ∷ []))
    ∷ (1, is_record 4 256 0x100000000 256 7 (4 ∷ 0xff ∷ 0xff ∷ 0xff ∷ 0xff ∷ 0xff ∷ 0xff ∷ 7 ∷ 0 ∷ 0 ∷ 0 ∷ 0 ∷ 0 ∷ 0 ∷ 0 ∷ []))
    ∷ []

abbrev pub interface : List (ℕ × ℕ)
interface = refusals ++ bytes ++ records
