-- A call of a player as it crosses the C interface: a card is 289 bytes, a player 25. Assumes nothing.
use Rattle.std.specs.Prelude.{Bool, cond, ◌&&◌, List, ◌∷◌, ◌++◌, ℕ, ◌%◌, ltb, eqb, length, Option, Some, None, Result, Ok, Err}
use Rattle.words.specs.Bytes.{byte, part, word16, word64, bytes_of}
use Rattle.model.specs.declared.Answer.{Answer}
use Rattle.model.specs.Answers.{refusal_of, event_code}
use Rattle.model.specs.World.{World, world_of}
use Rattle.model.specs.Image.{card_in}
unfoldable pub use Rattle.call_log.specs.Stages.{stage_byte, stage_of}
use Rattle.call_log.specs.declared.Player.{Player}
use Rattle.call_log.specs.Players.{player_of}
use Rattle.call_log.specs.Scanning.{whole_in}
use Rattle.player.specs.Plays.{Heard, play_call}
use Rattle.capi.specs.Crossing.{card_over}
use Rattle.capi_log.specs.declared.turn.Stopped.{Stopped}
use Rattle.capi_log.specs.declared.turn.Turn.{Turn}

-- ---- a player as bytes: stage, bytes taken, the 15 bytes of a record, the number of complete records, low byte first

unfoldable pub player_bytes : Player → List ℕ
player_bytes p = stage_byte p.stage ∷ p.taken % 256 ∷ p.part ++ bytes_of 8 p.number

unfoldable pub player_in : List ℕ → Player
player_in bytes = player_of (stage_of (byte bytes 0)) (byte bytes 1) (part 2 15 bytes) (word64 bytes 17)

-- ---- the bytes that are a card's, and a player's

-- 289 bytes, and of the flags none but line and wire
unfoldable pub is_card : List ℕ → Bool
is_card bytes = eqb (length bytes) 289 && ltb (byte bytes 0) 4

-- 25 bytes, and one of four stages
unfoldable pub is_player : List ℕ → Bool
is_player bytes = eqb (length bytes) 25 && ltb (byte bytes 0) 4

-- stage 1, no byte taken and 15 bytes 0: a player between two records, whatever its number
unfoldable pub is_between : List ℕ → Bool
is_between bytes = eqb (word16 bytes 0) 1 && eqb (word64 bytes 2) 0 && eqb (word64 bytes 9) 0

-- how many bytes the record has that stands whole at the start of a log, for a player between two records; none for any other player, and if none does
abbrev pub at_once : (player log : List ℕ) → Option ℕ
at_once player log = cond (is_between player) (whole_in log) None

-- ---- what crosses

-- what the function hands back: the number that it returns, the later contents of each buffer, and the numbers that it sets
pub record Crossed : Type 0 where
  pub returned : ℕ
  pub card : List ℕ
  pub table : List ℕ
  pub pending : List ℕ
  pub player : List ℕ
  pub output : List ℕ
  pub taken : ℕ
  pub ended : ℕ
  pub refusal : ℕ
  pub answer : ℕ
  pub count : ℕ

abbrev pub handed : (returned : ℕ) (card table pending player output : List ℕ) (taken ended refusal answer count : ℕ) → Crossed
handed returned card table pending player output taken ended refusal answer count = record {
  returned = returned;
  card = card;
  table = table;
  pending = pending;
  player = player;
  output = output;
  taken = taken;
  ended = ended;
  refusal = refusal;
  answer = answer;
  count = count;
}

-- what became of the record as numbers: 1 if its call was made, its refusal, and what became of an event
abbrev pub ended_code : Option Answer → ℕ
ended_code None = 0
ended_code (Some answer) = 1

abbrev pub refusal_in : Option Answer → ℕ
refusal_in None = 0
refusal_in (Some answer) = refusal_of answer

abbrev pub answer_in : Option Answer → ℕ
answer_in None = 0
answer_in (Some answer) = event_code answer

-- the bytes of the card: they stay where no call was made, and beside a refusal
abbrev pub card_after : List ℕ → Option Answer → World → List ℕ
card_after card None w = card
card_after card (Some answer) w = card_over (refusal_of answer) card w

abbrev pub back : (card : List ℕ) → Heard → Crossed
back card h =
    handed h.refusal (card_after card h.ended h.world) h.world.endpoint.table h.world.endpoint.pending (player_bytes h.player)
    h.output h.taken (ended_code h.ended) (refusal_in h.ended) (answer_in h.ended) h.count

-- the call of the player that the bytes hold, on the card that they hold
abbrev pub called_on : (card table pending player log out : List ℕ) → Crossed
called_on card table pending player log out = back card (play_call (player_in player) (world_of (card_in card) table pending) log out)

-- 60 where the bytes are no card's or no player's, and nothing changes; else that call
unfoldable pub played : (card table pending player log out : List ℕ) → Crossed
played card table pending player log out =
    cond (is_card card && is_player player)
    (called_on card table pending player log out)
    (handed 60 card table pending player out 0 0 0 0 0)

-- a result of the code, 30 where the player goes on no more, with the later contents of each buffer
abbrev pub turned : Turn → (card table pending player output : List ℕ) → (count : ℕ) → Crossed
turned r card table pending player output count = by r.ended
  where
    by : Result (Option Answer) Stopped → Crossed
    by (Ok ended) = handed 0 card table pending player output r.taken (ended_code ended) (refusal_in ended) (answer_in ended) count
    by (Err e) = handed 30 card table pending player output r.taken 0 0 0 count
