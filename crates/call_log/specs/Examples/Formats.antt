-- Request [1]: the bytes of a log, each number beside the one that the definitions give. Assumes nothing.
use Rattle.std.specs.Prelude.{true, false, List, [], ◌∷◌, ◌++◌, ℕ, ◌-◌, take, replicate}
use Rattle.std.proofs.Math.Option.{Option, none, some}
use Rattle.words.specs.Bits.{of_bool}
use Rattle.model.specs.Calls.{config_read, config_write, bar_read, bar_write, event, line, reset, save}
use Rattle.call_log.specs.declared.Record.{Record}
use Rattle.call_log.specs.declared.Record.TheVariants.{Event, Line, ConfigWrite, BarWrite, Reset}
use Rattle.call_log.specs.Logs.{header, size_of, bytes_in, record_in, call_of, record_of}
use Rattle.call_log.specs.Players.{fresh, between, refusal_at, due_at, advanced}
use Rattle.call_log.specs.Examples.Parts.{mark, event_bytes, line_bytes, config_bytes, bar_bytes, reset_bytes, equal, record_fields, call_fields}

-- ---- how many bytes the first call of a player takes, and its refusal

abbrev taking : (bytes : List ℕ) → (taken refusal : ℕ) → List (ℕ × ℕ)
taking bytes taken refusal = (taken, (advanced fresh bytes).taken) ∷ (refusal, refusal_at (advanced fresh bytes).end) ∷ []

-- "CLG": 43h, 4Ch, 47h, and their neighbours. "The first wrong byte of mark, version, kind or line is refusal 30; it and all after it are not taken"
abbrev pub marks : List (ℕ × ℕ)
marks =
    equal mark header ∷ taking [] 0 0
    ++ taking (0x43 ∷ []) 1 0 ++ taking (0x42 ∷ 0x4c ∷ []) 0 30 ++ taking (0x44 ∷ 0x4c ∷ []) 0 30
    ++ taking (0x43 ∷ 0x4c ∷ []) 2 0 ++ taking (0x43 ∷ 0x4b ∷ 0x47 ∷ []) 1 30 ++ taking (0x43 ∷ 0x4d ∷ 0x47 ∷ []) 1 30
    ++ taking (0x43 ∷ 0x4c ∷ 0x47 ∷ []) 3 0 ++ taking (0x43 ∷ 0x4c ∷ 0x46 ∷ 1 ∷ []) 2 30 ++ taking (0x43 ∷ 0x4c ∷ 0x48 ∷ 1 ∷ []) 2 30

-- "a 16-bit version (1)", low byte first: versions 1, 0, 2, 0100h, 0101h and 01FFh
abbrev pub versions : List (ℕ × ℕ)
versions =
    taking (0x43 ∷ 0x4c ∷ 0x47 ∷ 1 ∷ []) 4 0 ++ taking (0x43 ∷ 0x4c ∷ 0x47 ∷ 1 ∷ 0 ∷ []) 5 0 ++ taking (0x43 ∷ 0x4c ∷ 0x47 ∷ 0 ∷ 0 ∷ []) 3 30
    ++ taking (0x43 ∷ 0x4c ∷ 0x47 ∷ 2 ∷ 0 ∷ []) 3 30 ++ taking (0x43 ∷ 0x4c ∷ 0x47 ∷ 0 ∷ 1 ∷ []) 3 30 ++ taking (0x43 ∷ 0x4c ∷ 0x47 ∷ 1 ∷ 1 ∷ []) 4 30
    ++ taking (0x43 ∷ 0x4c ∷ 0x47 ∷ 0xff ∷ 1 ∷ []) 3 30

-- "records, kind byte first": 1 to 5
abbrev of_kind : (kind taken refusal : ℕ) → List (ℕ × ℕ)
of_kind kind taken refusal = taking (mark ++ (kind ∷ [])) taken refusal

abbrev pub kinds : List (ℕ × ℕ)
kinds =
    of_kind 0 5 30 ++ of_kind 1 6 0 ++ of_kind 2 6 0 ++ of_kind 3 6 0 ++ of_kind 4 6 0 ++ of_kind 5 6 0 ++ of_kind 6 5 30 ++ of_kind 43 5 30 ++ of_kind 255 5 30

-- "line (one byte, 0 or 1)"; a byte of any other record is never wrong
abbrev pub levels : List (ℕ × ℕ)
levels =
    taking (mark ++ (2 ∷ 0 ∷ [])) 7 0 ++ taking (mark ++ (2 ∷ 1 ∷ [])) 7 0 ++ taking (mark ++ (2 ∷ 2 ∷ 5 ∷ [])) 6 30 ++ taking (mark ++ (2 ∷ 255 ∷ 5 ∷ [])) 6 30
    ++ taking (mark ++ (1 ∷ replicate 2 255)) 8 0 ++ taking (mark ++ (3 ∷ replicate 7 255)) 13 0 ++ taking (mark ++ (4 ∷ replicate 14 255)) 20 0

-- ---- how many bytes a record has: a call takes just these, and with one byte less no record is due

abbrev is_due : (bytes : List ℕ) → ℕ
is_due bytes = of_bool (due_at (advanced (between 0) bytes).end)

abbrev of_size : (kind size : ℕ) → List (ℕ × ℕ)
of_size kind size =
    let bytes : List ℕ = kind ∷ replicate 20 0 in
    (size, size_of kind) ∷ (size, (advanced (between 0) bytes).taken) ∷ (1, is_due (take size bytes)) ∷ (0, is_due (take (size - 1) bytes)) ∷ []

-- event 16 bits; line one byte; configuration write 16, 8, 32; BAR write 8, 32, 8, 64; reset: each with its kind byte
abbrev pub sizes : List (ℕ × ℕ)
sizes = of_size 1 3 ++ of_size 2 2 ++ of_size 3 8 ++ of_size 4 15 ++ of_size 5 1 ++ ((0, size_of 0) ∷ (0, size_of 6) ∷ (0, size_of 255) ∷ [])

-- ---- "Numbers little-endian": each record and its bytes, no two of them alike

abbrev coded : Record → (bytes fields : List ℕ) → List (ℕ × ℕ)
coded r bytes fields = equal bytes (bytes_in r) ∷ equal fields (record_fields (record_in bytes)) ∷ []

-- "1, event (16 bits)"; "2, line (one byte, 0 or 1)"; "5, reset"
abbrev pub short_records : List (ℕ × ℕ)
short_records =
    coded (Event 0x1234) event_bytes (1 ∷ 0x1234 ∷ []) ++ coded (Event 0xff00) (1 ∷ 0 ∷ 255 ∷ []) (1 ∷ 0xff00 ∷ [])
    ++ coded (Line false) (2 ∷ 0 ∷ []) (2 ∷ 0 ∷ []) ++ coded (Line true) line_bytes (2 ∷ 1 ∷ []) ++ coded Reset reset_bytes (5 ∷ [])

-- "3, configuration write (offset 16, width 8, value 32)"; "4, BAR write (BAR 8, offset 32, width 8, value 64)"
abbrev pub long_records : List (ℕ × ℕ)
long_records =
    coded (ConfigWrite 0x3456 7 0x89abcdef) config_bytes (3 ∷ 0x3456 ∷ 7 ∷ 0x89abcdef ∷ [])
    ++ coded (BarWrite 5 0x12345678 9 0xfedcba9876543210) bar_bytes (4 ∷ 5 ∷ 0x12345678 ∷ 9 ∷ 0xfedcba9876543210 ∷ [])

-- ---- the call that a record is, with the output lent to it, and the record of a call

abbrev called : Record → (fields : List ℕ) → List (ℕ × ℕ)
called r fields = equal (fields ++ (77 ∷ 78 ∷ [])) (call_fields (call_of r (77 ∷ 78 ∷ []))) ∷ []

abbrev pub calls : List (ℕ × ℕ)
calls =
    called (Event 0x1234) (1 ∷ 0x1234 ∷ []) ++ called (Line false) (2 ∷ 0 ∷ []) ++ called (Line true) (2 ∷ 1 ∷ [])
    ++ called (ConfigWrite 0x3456 7 0x89abcdef) (3 ∷ 0x3456 ∷ 7 ∷ 0x89abcdef ∷ [])
    ++ called (BarWrite 5 0x12345678 9 0xfedcba9876543210) (4 ∷ 5 ∷ 0x12345678 ∷ 9 ∷ 0xfedcba9876543210 ∷ []) ++ called Reset (5 ∷ [])

abbrev pub fields_if : Option Record → List ℕ
fields_if none = []
fields_if (some r) = record_fields r

-- reads and saves have no record
abbrev pub call_records : List (ℕ × ℕ)
call_records =
    equal (1 ∷ 0x1234 ∷ []) (fields_if (record_of (event 0x1234 []))) ∷ equal (2 ∷ 0 ∷ []) (fields_if (record_of (line false [])))
    ∷ equal (2 ∷ 1 ∷ []) (fields_if (record_of (line true []))) ∷ equal (3 ∷ 4 ∷ 2 ∷ 0x1027 ∷ []) (fields_if (record_of (config_write 4 2 0x1027 [])))
    ∷ equal (4 ∷ 1 ∷ 16 ∷ 8 ∷ 0x1027 ∷ []) (fields_if (record_of (bar_write 1 16 8 0x1027 []))) ∷ equal (5 ∷ []) (fields_if (record_of (reset [])))
    ∷ equal [] (fields_if (record_of (config_read 4 2))) ∷ equal [] (fields_if (record_of (bar_read 1 16 8))) ∷ equal [] (fields_if (record_of (save []))) ∷ []

abbrev pub formats : List (ℕ × ℕ)
formats = marks ++ versions ++ kinds ++ levels ++ sizes ++ short_records ++ long_records ++ calls ++ call_records
