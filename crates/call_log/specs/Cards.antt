-- Document 02, request [1]: records on a card; a host that plays a log and makes calls of its own; what demand 3 reads off that. Assumes nothing.
use mathlib.Core.List.{List, [], ◌∷◌, ◌++◌, foldl}
use Rattle.std.proofs.Math.Option.{Option, none, some}
use Rattle.std.specs.Prelude.{ℕ, replicate}
use Rattle.model.specs.World.{World}
use Rattle.model.specs.Calls.{Call, Outcome, step}
use Rattle.model.specs.Trials.{wrote_bytes}
use Rattle.model.specs.History.{Past, Run, called, entry_of}
use Rattle.call_log.specs.declared.Record.{Record}
use Rattle.call_log.specs.declared.Player.{Player}
use Rattle.call_log.specs.Logs.{call_of}
use Rattle.call_log.specs.Players.{played_record}
use Rattle.call_log.specs.Plays.{Performed, Played, play_of}

-- what a call gave, its packets without the rest of the output
abbrev pub shown : Outcome → Performed World
shown o = record { world = o.world; answer = o.answer; bytes = wrote_bytes o }

-- a record on a card: the call that it is, with an output lent to it
unfoldable pub on_card : (out : List ℕ) → World → Record → Performed World
on_card out w r = shown (step w (call_of r out))

-- "40,976 bytes of output"
unfoldable pub spare : List ℕ
spare = replicate 40976 0

-- ---- a host with a card and a player

-- a call of its own, or of the player with bytes of a log
pub data Action : Type 0 where
  direct : Call → Action
  play : (bytes out : List ℕ) → Action

-- the player, and the card with its past: the card calls with their answers
pub record Host : Type 0 where
  pub player : Player
  pub run : Run

-- "the card calls that its records make", each with the answer and the packets that the player told
unfoldable pub told : Option Record → (out : List ℕ) → Option (Performed World) → Past → Past
told none out r past = past
told (some c) out none past = past
told (some c) out (some r) past = entry_of (call_of c out) r.answer r.bytes ∷ past

unfoldable pub acted : Host → Action → Host
acted h (direct c) = record { player = h.player; run = called h.run c }
acted h (play bytes out) =
    let r : Played World = play_of (on_card out) h.player h.run.world bytes in
    record { player = r.player; run = record { world = r.world; past = told (played_record h.player bytes) out r.result h.run.past } }

unfoldable pub acted_all : Host → List Action → Host
acted_all h actions = foldl acted h actions

-- a host before its first action
abbrev pub host_of : Player → World → Host
host_of p w = record { player = p; run = record { world = w; past = [] } }

-- ---- the card calls that were made

unfoldable pub calls_of : Option Record → (out : List ℕ) → List Call
calls_of none out = []
calls_of (some r) out = call_of r out ∷ []

unfoldable pub calls_by : Player → Action → List Call
calls_by p (direct c) = c ∷ []
calls_by p (play bytes out) = calls_of (played_record p bytes) out

-- the card calls of a list of actions
unfoldable pub calls_made : Host → List Action → List Call
calls_made h [] = []
calls_made h (x ∷ xs) = calls_by h.player x ++ calls_made (acted h x) xs
