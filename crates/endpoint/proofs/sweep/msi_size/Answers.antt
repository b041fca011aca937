-- The word of owed vectors, and the message of vector 0. Assumes nothing.
use mathlib.Core.Path.{sym, ap, ◌∙◌}
use lib.ListN.{length}
use Rattle.model.specs.World.{endpoint_of}
use Rattle.endpoint.proofs.SweepFor.{msi-bytes}
use Rattle.endpoint.proofs.sweep.msi_size.Goals as goal

pub returns : goal.returns
returns c =
    λ t p.
    c.msi_size.ensures _ _ _
    ∙ sym (ap length (msi-bytes _ (endpoint_of _ t p) _ _ (c.msi_owed-owed.ensures _ _ _ _ t p) (c.msi_base-base.ensures t).0))
