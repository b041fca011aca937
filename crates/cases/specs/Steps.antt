-- What the rows of the table stand for: steps of the model's cases. Assumes nothing.
use Rattle.std.specs.Prelude.{◌≡◌, Bool, true, false, cond, not, List, [], ◌∷◌, ◌++◌, map, ℕ, zero, suc, ◌+◌, ◌%◌, min, eqb, take, drop, set, replicate}
use Rattle.words.specs.Bytes.{byte}
use Rattle.words.specs.Lists.{count}
use Rattle.words.specs.Writers.{put_at}
use Rattle.model.specs.Calls as Calls
use Rattle.model.specs.Play.{Step, lends, does, fresh}
use Rattle.model.specs.Cases.{sizes_of, bench_cases}
use Rattle.cases.specs.declared.row.Kind.{Kind}
use Rattle.cases.specs.declared.row.Kind.TheVariants.{New, Start, Read, Write, BarRead, BarWrite, Event, Line, Image, Keep, Compare}
use Rattle.cases.specs.declared.row.Row.{Row}
use Rattle.cases.specs.declared.table.Table.{Table}
use Rattle.cases.specs.Rows.{row_of}

-- a part of the table's bytes
abbrev pub bytes_at : List ℕ → (place size : ℕ) → List ℕ
bytes_at bytes place size = take size (drop place bytes)

-- Status, the place of the first capability, the pin, and the bytes 40h to 4Bh
unfoldable pub config_at : List ℕ → ℕ → List ℕ
config_at bytes at =
    put_at 0x40 (bytes_at bytes (at + 3) 12)
    (set (set (set (replicate 256 0) 0x06 (byte bytes at)) 0x34 (byte bytes (at + 1))) 0x3d (byte bytes (at + 2)))

-- ---- calls by their kind

unfoldable pub operation_by : Kind → List ℕ → Row → (out : List ℕ) → Calls.Operation
operation_by Start bytes r out = Calls.start (config_at bytes r.place) (sizes_of r.c r.a) r.b 0x100
operation_by Read bytes r out = Calls.call (Calls.config_read r.a (r.b % 256))
operation_by BarRead bytes r out = Calls.call (Calls.bar_read 0 r.a (r.b % 256))
operation_by Write bytes r out = Calls.call (Calls.config_write r.a (r.b % 256) r.c out)
operation_by BarWrite bytes r out = Calls.call (Calls.bar_write 0 r.a (r.b % 256) r.c out)
operation_by Line bytes r out = Calls.call (Calls.line (not (eqb r.b 0)) out)
operation_by Event bytes r out = Calls.call (Calls.event r.a out)
operation_by New bytes r out = Calls.call (Calls.save out)
operation_by Image bytes r out = Calls.call (Calls.save out)
operation_by Keep bytes r out = Calls.call (Calls.save out)
operation_by Compare bytes r out = Calls.call (Calls.save out)

-- the length of the output that a call is lent
unfoldable pub room_by : Kind → Row → ℕ
room_by Start r = 0
room_by Read r = 0
room_by BarRead r = 0
room_by Write r = 64
room_by BarWrite r = 64
room_by Line r = 64
room_by Event r = r.b
room_by New r = r.b
room_by Image r = r.b
room_by Keep r = r.b
room_by Compare r = r.b

abbrev pub operation_over : List ℕ → Row → (out : List ℕ) → Calls.Operation
operation_over bytes r out = operation_by r.kind bytes r out

abbrev pub room_of : Row → ℕ
room_of r = room_by r.kind r

abbrev pub operation_of : List ℕ → Row → Calls.Operation
operation_of bytes r = operation_over bytes r (take (room_of r) (fresh 300))

-- ---- steps

abbrev pub is_new : Kind → Bool
is_new New = true
is_new k = false

-- new buffers, and the program's serve ten vectors; any other row is a call
unfoldable pub step_of : List ℕ → Row → Step
step_of bytes r =
    cond (is_new r.kind) (lends (min r.b 10)) (does (operation_of bytes r) (bytes_at bytes r.place r.size) r.answer)

-- the step of a row that belongs to case n
unfoldable pub row_steps : ℕ → List ℕ → Row → List Step
row_steps n bytes r = cond (eqb r.number n) (step_of bytes r ∷ []) []

-- the steps of case n in k rows of 45 characters
unfoldable pub case_steps : ℕ → List ℕ → (k : ℕ) → List ℕ → List Step
case_steps n bytes zero l = []
case_steps n bytes (suc k) l = row_steps n bytes (row_of (take 45 l)) ++ case_steps n bytes k (drop 45 l)

-- how many rows and cases the table has
abbrev pub row_count : ℕ
row_count = 136

abbrev pub case_count : ℕ
case_count = 15

-- its rows are the model's cases, each under its number
abbrev pub Plays : Table → Type 0
Plays t = map (λ n. case_steps n t.bytes row_count t.rows) (count 1 case_count) ≡ bench_cases
