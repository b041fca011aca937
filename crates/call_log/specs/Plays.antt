-- Document 02, request [1]: one call of a player. What a record does is any function `perform`. Assumes nothing.
use Rattle.std.specs.Prelude.{Bool, cond, List, ℕ, eqb}
use Rattle.std.proofs.Math.Option.{Option, none, some}
use Rattle.model.specs.declared.Answer.{Answer}
use Rattle.model.specs.Answers.{refusal_of}
use Rattle.call_log.specs.declared.Record.{Record}
use Rattle.call_log.specs.declared.Stage.TheVariants.{Again}
use Rattle.call_log.specs.declared.Player.{Player}
use Rattle.call_log.specs.declared.Scanned.{Scanned}
use Rattle.call_log.specs.Logs.{record_in}
use Rattle.call_log.specs.Players.{player_of, between, refusal_at, due_at, advanced}

-- what a record gave: card and buffers after it, the answer, and the packets
pub record Performed (W : Type 0) : Type 0 where
  pub world : W
  pub answer : Answer
  pub bytes : List ℕ

-- what a call of the player gives: `result` is that of the record that it completed or tried again
pub record Played (W : Type 0) : Type 0 where
  pub player : Player
  pub world : W
  pub taken : ℕ
  pub refusal : ℕ
  pub result : Option (Performed W)

-- card and buffers after a call that gave this result
abbrev pub world_by : {W : Type 0} → Option (Performed W) → W → W
world_by none w = w
world_by (some r) w = r.world

-- 6: the output had too little room, and nothing was done
abbrev pub lacks_room : Answer → Bool
lacks_room a = eqb (refusal_of a) 6

-- "The card's own refusals are noted and play goes on, except 6": then the same record is to be tried again
unfoldable pub onward : Player → Answer → Player
onward p a = cond (lacks_room a) (player_of Again p.taken p.part p.number) (between p.number)

-- ---- one call: the record that is due is performed

module _ {W : Type 0} (perform : W → Record → Performed W) where
  unfoldable pub tried : Player → W → (taken : ℕ) → Played W
  tried p w taken =
      let r : Performed W = perform w (record_in p.part) in
      record { player = onward p r.answer; world = r.world; taken = taken; refusal = 0; result = some r }

  -- no record is due
  abbrev pub idle : Scanned → W → Played W
  idle a w = record { player = a.player; world = w; taken = a.taken; refusal = refusal_at a.end; result = none }

  unfoldable pub made : Scanned → W → Played W
  made a w = cond (due_at a.end) (tried a.player w a.taken) (idle a w)

  unfoldable pub play_of : Player → W → (bytes : List ℕ) → Played W
  play_of p w l = made (advanced p l) w
