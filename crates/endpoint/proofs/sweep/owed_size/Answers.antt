-- One case for each mechanism. Assumes nothing.
use mathlib.Core.Path.{ap, ◌∙◌}
use lib.ListN.{length}
use Rattle.model.specs.declared.Mode.TheVariants.{Pin, Msi, Msix}
use Rattle.endpoint.proofs.SweepFor.{pin-bytes, bytes-mode}
use Rattle.endpoint.proofs.ReadyFit.{ready_lent, ready-table}
use Rattle.endpoint.proofs.sweep.owed_size.Goals as goal

pub msix_size-requires : goal.msix_size-requires
msix_size-requires c =
    let k = c.requires.1 in
    (k.fits, ready_lent c.requires.0, ready-table c.requires.0, λ t. k.mode t ∙ c.in-Msix.is)

pub returns-in-Pin : goal.returns-in-Pin
returns-in-Pin c =
    ap length (pin-bytes _ _ ∙ bytes-mode Pin _ _ (c.requires.1.mode _ ∙ c.in-Pin.is))

pub returns-in-Msi : goal.returns-in-Msi
returns-in-Msi c =
    c.msi_size.ensures _ _ ∙ ap length (bytes-mode Msi _ _ (c.requires.1.mode _ ∙ c.in-Msi.is))

pub returns-in-Msix : goal.returns-in-Msix
returns-in-Msix c =
    c.msix_size.ensures ∙ ap length (bytes-mode Msix _ _ (c.requires.1.mode _ ∙ c.in-Msix.is))
