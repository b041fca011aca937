-- `region_at` meets its contract. Assumes nothing.
use Rattle.model.specs.Shape.{region_at}
use Rattle.layout.proofs.shape.region_at.Goals as goal

pub returns : goal.returns
unfolding region_at
returns c = rw c.word_at-w.ensures
