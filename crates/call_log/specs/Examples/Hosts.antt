-- Request [1]: records on a card with pin 3 and one event, and a host that plays a log and makes calls of its own. Assumes nothing.
use Rattle.std.specs.Prelude.{true, false, List, [], ◌∷◌, ◌++◌, ℕ, replicate}
use Rattle.words.specs.Bits.{of_bool}
use Rattle.model.specs.Answers.{refusal_of}
use Rattle.model.specs.World.{World}
use Rattle.model.specs.Start.{given}
use Rattle.model.specs.Calls.{Call, line, config_read, started_world}
use Rattle.model.specs.History.{Past}
use Rattle.model.specs.Cases.{header, sizes_of, wire_packet}
use Rattle.call_log.specs.declared.Record.{Record}
use Rattle.call_log.specs.declared.Record.TheVariants.{Event, Line, ConfigWrite, BarWrite, Reset}
use Rattle.call_log.specs.Players.{fresh}
use Rattle.call_log.specs.Cards.{Host, Action, direct, play, on_card, acted_all, calls_made, host_of}
use Rattle.call_log.specs.Examples.Parts.{mark, line_bytes, equal, call_fields, player_fields}

-- requester 0100h
abbrev pub pin_card : World
pin_card = started_world (given (header 3) (sizes_of 0 0) 1 0x100 0 0)

-- ---- the refusal of a record on that card, its packets, and the wire after it

abbrev gives : (room : ℕ) → Record → (refusal : ℕ) → (packets : List ℕ) → (wire : ℕ) → List (ℕ × ℕ)
gives room r refusal packets wire =
    (refusal, refusal_of (on_card (replicate room 0xee) pin_card r).answer) ∷ equal packets (on_card (replicate room 0xee) pin_card r).bytes
    ∷ (wire, of_bool (on_card (replicate room 0xee) pin_card r).world.wire) ∷ []

-- "The card's own refusals", and its packets
abbrev pub records : List (ℕ × ℕ)
records =
    gives 64 (Line true) 0 (wire_packet 0x22) 1 ++ gives 16 (Line true) 0 (wire_packet 0x22) 1 ++ gives 15 (Line true) 6 [] 0 ++ gives 0 (Line false) 0 [] 0
    ++ gives 64 (Event 0) 0 [] 0 ++ gives 64 (Event 1) 2 [] 0 ++ gives 64 (ConfigWrite 4 2 0x0400) 0 [] 0 ++ gives 64 (ConfigWrite 4 8 0) 3 [] 0
    ++ gives 64 (BarWrite 0 0 4 0) 4 [] 0 ++ gives 64 Reset 0 [] 0

-- ---- a host: line 1 without room, tried again with room, a read of its own, the reset that follows, a wrong byte, and a call of its own behind it

abbrev actions : List Action
actions =
    play (mark ++ line_bytes ++ (5 ∷ [])) (replicate 15 0) ∷ play (5 ∷ 9 ∷ []) (replicate 16 0) ∷ direct (config_read 4 2) ∷ play (5 ∷ 9 ∷ []) (replicate 17 0)
    ∷ play (9 ∷ []) (replicate 18 0) ∷ play (9 ∷ []) (replicate 19 0) ∷ direct (line true (replicate 20 0)) ∷ []

abbrev host : Host
host = acted_all (host_of fresh pin_card) actions

abbrev all_fields : List Call → List ℕ
all_fields [] = []
all_fields (c ∷ cs) = call_fields c ++ all_fields cs

abbrev past_calls : Past → List Call
past_calls [] = []
past_calls (x ∷ past) = x.call ∷ past_calls past

abbrev past_answers : Past → List ℕ
past_answers [] = []
past_answers (x ∷ past) = refusal_of x.answer ∷ x.bytes ++ past_answers past

-- "demand 3 speaks of the card calls that its records make": five calls, in order and in the past, which has the latest first
abbrev pub card_calls : List (ℕ × ℕ)
card_calls =
    equal
    (2 ∷ 1 ∷ replicate 15 0 ++ (2 ∷ 1 ∷ replicate 16 0) ++ (0 ∷ []) ++ (5 ∷ replicate 17 0) ++ (2 ∷ 1 ∷ replicate 20 0))
    (all_fields (calls_made (host_of fresh pin_card) actions))
    ∷ equal
    (2 ∷ 1 ∷ replicate 20 0 ++ (5 ∷ replicate 17 0) ++ (0 ∷ []) ++ (2 ∷ 1 ∷ replicate 16 0) ++ (2 ∷ 1 ∷ replicate 15 0))
    (all_fields (past_calls host.run.past))
    ∷ equal (0 ∷ wire_packet 0x22 ++ (0 ∷ wire_packet 0x26) ++ (0 ∷ 0 ∷ wire_packet 0x22) ++ (6 ∷ [])) (past_answers host.run.past)
    ∷ equal (3 ∷ 0 ∷ 2 ∷ replicate 15 0) (player_fields host.player) ∷ (1, of_bool host.run.world.wire) ∷ []

abbrev pub hosts : List (ℕ × ℕ)
hosts = records ++ card_calls
