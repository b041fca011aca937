-- A run of the program, and the play of document 01's cases that it stands for. Assumes nothing.
use Rattle.std.specs.Prelude.{◌≡◌, Bool, ◌&&◌, List, ℕ, ◌+◌, ◌*◌, ◌/◌, take}
use Rattle.model.specs.World.{world_of}
use Rattle.model.specs.Calls.{operate, lent_output}
use Rattle.model.specs.Play.{Played, fresh}
use Rattle.card.specs.Outcomes.{after}
use Rattle.cases.specs.declared.row.Row.{Row}
use Rattle.cases.specs.declared.run.Run.{Run}
use Rattle.cases.specs.declared.calls.Called.{Called}
use Rattle.cases.specs.Steps.{operation_of}

-- the lent parts of the buffers that serve every case
abbrev pub table_of : Run → List ℕ
table_of run = take (16 * run.vectors) run.table

abbrev pub pending_of : Run → List ℕ
pending_of run = take (8 * ((run.vectors + 63) / 64)) run.pending

-- the card with its lent buffers, and whether every step so far gave what it should
abbrev pub seen : Run → Played
seen run = record { world = world_of run.card (table_of run) (pending_of run); good = run.good }

-- the run after a call that gave what it should, or not
abbrev pub judged : Run → Bool → Run
judged run good =
    record { card = run.card; vectors = run.vectors; table = run.table; pending = run.pending; good = run.good && good }

-- the run with new buffers for v vectors
abbrev pub with_buffers : Run → ℕ → Run
with_buffers run v = record { card = run.card; vectors = v; table = fresh 160; pending = fresh 8; good = run.good }

-- a row's call: its outcome with the buffers and the output afterwards, and the run after it
pub record Calls (run : Run) (bytes : List ℕ) (row : Row) (r : Called) : Type 0 where
  pub outcome : after r.outcome (table_of r.run) (pending_of r.run) (take r.room r.out) ≡ operate (seen run).world (operation_of bytes row)
  pub card : r.run.card ≡ r.outcome.card
  pub good : r.run.good ≡ run.good
  pub fresh : take r.room (fresh 300) ≡ lent_output (operation_of bytes row)
