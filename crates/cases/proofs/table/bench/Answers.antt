-- The rows, computed, are the model's cases. Assumes nothing.
use mathlib.Core.Path.{refl}
use Rattle.words.specs.Lists.{count}
use Rattle.words.specs.Bytes.{bytes_of}
use Rattle.cases.specs.Rows.{digit_of}
use Rattle.cases.specs.Steps.{config_at, operation_by, room_by, step_of, row_steps, case_steps}
use Rattle.cases.proofs.table.bench.Goals as goal

pub returns : goal.returns
unfolding count bytes_of digit_of config_at operation_by room_by step_of row_steps case_steps
returns c = refl
