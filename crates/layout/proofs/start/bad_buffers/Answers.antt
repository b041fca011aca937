-- `bad_buffers` meets its contract. Assumes nothing.
use Rattle.std.proofs.Common.{rules, tests}
use Rattle.model.specs.Start.{bad_buffers}
use Rattle.layout.proofs.start.bad_buffers.Goals as goal

pub returns-then-table-table_bytes : goal.returns-then-table-table_bytes
unfolding bad_buffers
returns-then-table-table_bytes c = search (rules, tests)

pub returns-else-table-table_bytes : goal.returns-else-table-table_bytes
unfolding bad_buffers
returns-else-table-table_bytes c = search (rules, tests)
