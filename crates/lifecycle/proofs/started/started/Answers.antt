-- Configuration, table and pending array are each filled by their own function. Assumes nothing.
use Rattle.model.proofs.Shapes.FitLaws.{table-room}
use Rattle.lifecycle.proofs.StartFor.{started_is}
use Rattle.lifecycle.proofs.started.started.Goals as goal

pub started_config-fixed-requires : goal.started_config-fixed-requires
started_config-fixed-requires c =
    (c.requires.1.shape.capable, c.requires.2)

pub started_table-requires : goal.started_table-requires
started_table-requires c =
    table-room _ _ _ c.requires.1

pub returns : goal.returns
returns c =
    let a = c.args in
    started_is _ _ _ _ _ a.table.now a.pending.now _ _ _ c.requires.0 c.requires.1 c.started_config-fixed.ensures
    c.started_table.ensures c.fill.ensures
