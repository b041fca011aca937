-- The pending array is a region of its length. Assumes nothing.
use mathlib.Core.Path.{ap, ◌∙◌}
use mathlib.Core.Bool.{◌&&◌}
use Prim.Native.Nat.{ℕ}
use Rattle.model.specs.Shape.{msix_present}
use Rattle.model.specs.Registers.{in_region, in_pending}
use Rattle.registers.proofs.bar.in_pending.Goals as goal

pub returns : goal.returns
unfolding in_pending msix_present
returns c =
    let a = c.args in
    c.in_region.ensures ∙ ap (λ (n : ℕ). msix_present a.s && in_region a.s.msix.pending n a.bar a.offset) c.pending_bytes.ensures.0
