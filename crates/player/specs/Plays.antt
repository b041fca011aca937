-- Document 02, request [1]: one call of a player on a card, with the output lent to it. Assumes nothing.
use Rattle.std.specs.Prelude.{List, [], ℕ, length, Option, Some, None}
use Rattle.std.proofs.Math.Option as maybe
use Rattle.words.specs.Writers.{over}
use Rattle.model.specs.declared.Answer.{Answer}
use Rattle.model.specs.Answers.{refusal_of}
use Rattle.model.specs.World.{World, world_of}
use Rattle.model.specs.Image.{card_in}
use Rattle.model.specs.Calls.{Outcome, step}
use Rattle.capi.specs.Crossing.{card_over}
use Rattle.call_log.specs.declared.Player.{Player}
use Rattle.call_log.specs.declared.Record.{Record}
use Rattle.call_log.specs.Logs.{call_of}
use Rattle.call_log.specs.Plays as Plays
use Rattle.call_log.specs.Cards.{on_card}

-- what a call gives: `ended` is the answer of its record, if it performed one; `count` bytes of the output are new
pub record Heard : Type 0 where
  pub player : Player
  pub world : World
  pub taken : ℕ
  pub refusal : ℕ
  pub ended : Option Answer
  pub count : ℕ
  pub output : List ℕ

abbrev pub ended_by : maybe.Option (Plays.Performed World) → Option Answer
ended_by maybe.none = None
ended_by (maybe.some r) = Some r.answer

abbrev pub packets : maybe.Option (Plays.Performed World) → List ℕ
packets maybe.none = []
packets (maybe.some r) = r.bytes

-- its packets stand at the start of the output, and the bytes behind them keep their contents
abbrev pub heard_of : Plays.Played World → (out : List ℕ) → Heard
heard_of r out = record {
  player = r.player;
  world = r.world;
  taken = r.taken;
  refusal = r.refusal;
  ended = ended_by r.result;
  count = length (packets r.result);
  output = over (packets r.result) out;
}

-- the record is performed on the card
unfoldable pub play_call : Player → World → (log out : List ℕ) → Heard
play_call p w log out = heard_of (Plays.play_of (on_card out) p w log) out

-- ---- a record's call on a card as its 289 bytes

-- what it hands back: its answer, the later contents of each buffer, and how many bytes of the output are new
pub record Gave : Type 0 where
  pub answer : Answer
  pub card : List ℕ
  pub table : List ℕ
  pub pending : List ℕ
  pub output : List ℕ
  pub count : ℕ

abbrev pub gave : Answer → (card table pending output : List ℕ) → (count : ℕ) → Gave
gave answer card table pending output count = record { answer = answer; card = card; table = table; pending = pending; output = output; count = count }

-- an outcome, its card over the bytes of the card before it, which stay beside a refusal
abbrev pub gave_by : (card : List ℕ) → Outcome → Gave
gave_by card o =
    gave o.answer (card_over (refusal_of o.answer) card o.world) o.world.endpoint.table o.world.endpoint.pending o.output o.count

-- the call that a record is
abbrev pub performed : (card table pending : List ℕ) → Record → (out : List ℕ) → Gave
performed card table pending r out = gave_by card (step (world_of (card_in card) table pending) (call_of r out))
