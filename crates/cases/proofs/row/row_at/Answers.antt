use mathlib.Core.Path.{ap, ◌∙◌}
use native.Mathlib.Omega.{arith}
use lib.ListN.{length-take, length-drop}
use Rattle.cases.specs.Rows.{row_of}
use Rattle.cases.proofs.row.row_at.Goals as goal

pub row_of-requires : goal.row_of-requires
row_of-requires c = rw (c.part.ensures, length-take, length-drop) (omega arith)

pub returns : goal.returns
returns c = c.row_of.ensures ∙ ap row_of c.part.ensures
