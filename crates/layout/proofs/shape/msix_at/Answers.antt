-- `msix_at` meets its contract: the control register is read off its two bytes, and the regions off their words. Assumes nothing.
use Rattle.layout.proofs.ShapeFound.{msix_read}
use Rattle.layout.proofs.shape.msix_at.Goals as goal

pub returns : goal.returns
returns c =
    msix_read c.args.c.now c.args.a _ _ _ _ c.from-low.ensures c.from-high.ensures c.region_at-table.ensures c.region_at-pending.ensures
