-- Request [1], the recorder: which calls have a record, the room that it needs, and the log of some calls. Assumes nothing.
use Rattle.std.specs.Prelude.{true, List, [], ◌∷◌, ◌++◌, ℕ, ◌-◌, length, replicate}
use Rattle.words.specs.Bits.{of_bool}
use Rattle.model.specs.declared.Answer.{Answer}
use Rattle.model.specs.declared.Answer.TheVariants.{Refused, Done, Value, Sent, Held, Merged, Lost}
use Rattle.model.specs.Answers.{refusal_of}
use Rattle.model.specs.Calls.{Call, config_read, config_write, bar_read, bar_write, event, line, reset, save, withdraw, started_world}
use Rattle.model.specs.World.{World}
use Rattle.model.specs.Start as Start
use Rattle.model.specs.Cases.{wire_packet, msi_card, sizes_of}
use Rattle.call_log.specs.declared.Record.TheVariants.{Event, Line, ConfigWrite, BarWrite, Reset}
use Rattle.call_log.specs.Logs.{header, bytes_in, record_of}
use Rattle.call_log.specs.Examples.Formats.{fields_if}
use Rattle.call_log.specs.Recorder.{Appended, logged, appended, recorded_calls, log_of, log_told, given, numbered, left}
use Rattle.call_log.specs.Examples.Parts.{mark, event_bytes, equal, answers}
use Rattle.call_log.specs.Examples.Hosts.{pin_card}

-- ---- "recorded calls": all but those refused with 6, which did nothing

abbrev bytes_for : Answer → ℕ
bytes_for a = length (logged (Event 0x1234) a)

abbrev pub kept : List (ℕ × ℕ)
kept =
    (3, bytes_for Done) ∷ (3, bytes_for (Value 6)) ∷ (3, bytes_for Sent) ∷ (3, bytes_for Held) ∷ (3, bytes_for Merged) ∷ (3, bytes_for Lost)
    ∷ (3, bytes_for (Refused 1)) ∷ (3, bytes_for (Refused 2)) ∷ (3, bytes_for (Refused 3)) ∷ (3, bytes_for (Refused 4)) ∷ (3, bytes_for (Refused 5))
    ∷ (0, bytes_for (Refused 6)) ∷ (3, bytes_for (Refused 7)) ∷ equal event_bytes (logged (Event 0x1234) (Refused 2)) ∷ []

-- ---- room: all bytes, and those behind them kept, or 6 and nothing written

abbrev appends : (bytes : List ℕ) → (size : ℕ) → List (ℕ × ℕ)
appends bytes size =
    let short : Appended = appended bytes (replicate (size - 1) 0xee) in
    let exact : Appended = appended bytes (replicate size 0xee) in
    let longer : Appended = appended bytes (replicate 20 0xee) in
    (6, refusal_of short.answer) ∷ (0, short.count) ∷ equal (replicate (size - 1) 0xee) short.output
    ∷ (0, refusal_of exact.answer) ∷ (size, exact.count) ∷ equal bytes exact.output
    ∷ (0, refusal_of longer.answer) ∷ (size, longer.count) ∷ equal (bytes ++ replicate (20 - size) 0xee) longer.output ∷ []

-- mark and version; each kind of record; nothing
abbrev pub appending : List (ℕ × ℕ)
appending =
    appends header 5 ++ appends (bytes_in (Event 0x1234)) 3 ++ appends (bytes_in (Line true)) 2 ++ appends (bytes_in (ConfigWrite 4 2 7)) 8
    ++ appends (bytes_in (BarWrite 1 8 4 7)) 15 ++ appends (bytes_in Reset) 1 ++ ((0, refusal_of (appended [] []).answer) ∷ (0, (appended [] []).count) ∷ [])

-- ---- the log of calls on a card with pin 3 and one event

-- events 1 (refused with 2) and 0; reads; line 1 without room (6), then with it; a save without room (6); writes refused with 3 and 4; reset
abbrev made : List Call
made =
    event 1 [] ∷ event 0 [] ∷ config_read 4 2 ∷ bar_read 0 0 4 ∷ line true (replicate 15 0) ∷ line true (replicate 16 0) ∷ save []
    ∷ config_write 0x102 4 0x89abcdef [] ∷ bar_write 7 0x12345678 8 0xfedcba9876543210 [] ∷ reset (replicate 16 0) ∷ []

-- its bytes; for each recorded call the refusal and the packets; how many they are; the wire after all calls, and after line 1 alone
abbrev pub logs : List (ℕ × ℕ)
logs =
    equal
    (mark ++ (1 ∷ 1 ∷ 0 ∷ []) ++ (1 ∷ 0 ∷ 0 ∷ []) ++ (2 ∷ 1 ∷ []) ++ (3 ∷ 2 ∷ 1 ∷ 4 ∷ 0xef ∷ 0xcd ∷ 0xab ∷ 0x89 ∷ [])
    ++ (4 ∷ 7 ∷ 0x78 ∷ 0x56 ∷ 0x34 ∷ 0x12 ∷ 8 ∷ 0x10 ∷ 0x32 ∷ 0x54 ∷ 0x76 ∷ 0x98 ∷ 0xba ∷ 0xdc ∷ 0xfe ∷ []) ++ (5 ∷ []))
    (log_of pin_card made)
    ∷ equal (2 ∷ 0 ∷ 0 ∷ wire_packet 0x22 ++ (3 ∷ 4 ∷ 0 ∷ wire_packet 0x26)) (answers (given pin_card made)) ∷ (6, numbered 0 pin_card made) ∷ (0, of_bool (left pin_card made).wire)
    ∷ (1, of_bool (left pin_card (line true (replicate 16 0) ∷ [])).wire) ∷ equal mark (log_of pin_card []) ∷ []

abbrev pub recordings : List (ℕ × ℕ)
recordings = kept ++ appending ++ logs

-- ---- request [3]: an accepted withdrawal ends the log, whether its bit was set or not; a refused one does not

-- MSI with Capable 3, and eight events
abbrev msi_world : World
msi_world = started_world (Start.given msi_card (sizes_of 0 0) 8 0x100 0 0)

-- refused with 7 and with 2; held; withdrawn; and an event behind it
abbrev withdrawing : (set : ℕ) → List Call
withdrawing v = withdraw 0 ∷ config_write 0x42 2 0x31 [] ∷ withdraw 8 ∷ event 5 [] ∷ withdraw v ∷ event 6 [] ∷ []

-- the log has the write and the first event; bit 5 waits where it ends, and the event behind it is not told of
abbrev ends : (v : ℕ) → List (ℕ × ℕ)
ends v =
    equal (mark ++ (3 ∷ 0x42 ∷ 0 ∷ 2 ∷ 0x31 ∷ 0 ∷ 0 ∷ 0 ∷ []) ++ (1 ∷ 5 ∷ 0 ∷ [])) (log_told msi_world (withdrawing v))
    ∷ (4, length (recorded_calls msi_world (withdrawing v)))
    ∷ (0x20, (left msi_world (recorded_calls msi_world (withdrawing v))).endpoint.function.waiting) ∷ []

-- a withdrawal has no record
abbrev no_records : List (ℕ × ℕ)
no_records = equal [] (fields_if (record_of (withdraw 3))) ∷ []

abbrev pub withdrawn : List (ℕ × ℕ)
withdrawn = ends 5 ++ ends 4 ++ no_records ++ ((0x40, (left msi_world (withdrawing 5)).endpoint.function.waiting) ∷ (0x60, (left msi_world (withdrawing 4)).endpoint.function.waiting) ∷ [])
