use mathlib.Core.Path.{ap, ◌∙◌}
use Rattle.model.specs.Shape.{table_bytes}
use Rattle.snapshot.proofs.held.table_length.Goals as goal

pub returns : goal.returns
returns c = (c.table_bytes.ensures.0 ∙ ap table_bytes c.shape-s.ensures.0, c.table_bytes.ensures.1)
