-- The table is a region of its length. Assumes nothing.
use mathlib.Core.Path.{ap, ◌∙◌}
use mathlib.Core.Bool.{◌&&◌}
use Prim.Native.Nat.{ℕ}
use Rattle.model.specs.Shape.{msix_present}
use Rattle.model.specs.Registers.{in_region, in_table}
use Rattle.registers.proofs.bar.in_table.Goals as goal

pub returns : goal.returns
unfolding in_table msix_present
returns c =
    let a = c.args in
    c.in_region.ensures ∙ ap (λ (n : ℕ). msix_present a.s && in_region a.s.msix.table n a.bar a.offset) c.table_bytes.ensures.0
