-- `msi_at` meets its contract: the control register is read off its two bytes. Assumes nothing.
use Rattle.layout.proofs.ShapeFound.{msi_read}
use Rattle.layout.proofs.shape.msi_at.Goals as goal

pub returns : goal.returns
returns c = msi_read c.args.c.now c.args.a _ _ c.from-low.ensures c.from-high.ensures
