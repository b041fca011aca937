-- One case for each mechanism; the sweep of the mechanism in force is the sweep. Assumes nothing.
use mathlib.Core.Path.{◌∙◌}
use Rattle.model.specs.declared.Mode.TheVariants.{Pin, Msi, Msix}
use Rattle.endpoint.proofs.SweepFor.{pin-bytes, bytes-mode, pin-swept, swept-mode, none-sent, mode-room, msi-room, swept_by}
use Rattle.endpoint.proofs.ReadyFit.{ready_lent, ready-table}
use Rattle.endpoint.proofs.sweep.send_owed.Goals as goal

pub msi_send-requires : goal.msi_send-requires
msi_send-requires c =
    let k = c.requires.1 in
    (k, c.in-Msi.is, λ t p. msi-room _ _ _ _ t p _ (k.mode _ ∙ c.in-Msi.is) c.requires.2)

pub msix_send-requires : goal.msix_send-requires
msix_send-requires c =
    let k = c.requires.1 in
    let told = c.in-Msix.is in
    (k.fits, ready_lent c.requires.0, ready-table c.requires.0, λ t. k.mode t ∙ told, mode-room Msix _ _ _ (k.mode _ ∙ told) c.requires.2)

pub returns-in-Pin : goal.returns-in-Pin
returns-in-Pin c =
    let e = c.requires.1.mode _ ∙ c.in-Pin.is in
    none-sent _ _ _ _ (pin-bytes _ _ ∙ bytes-mode Pin _ _ e) (pin-swept _ _ ∙ swept-mode Pin _ _ e)

pub returns-in-Msi : goal.returns-in-Msi
returns-in-Msi c =
    swept_by Msi _ _ _ _ _ _ (c.requires.1.mode _ ∙ c.in-Msi.is) (c.msi_send.ensures _ _)

pub returns-in-Msix : goal.returns-in-Msix
returns-in-Msix c =
    swept_by Msix _ _ _ _ _ _ (c.requires.1.mode _ ∙ c.in-Msix.is) c.msix_send.ensures
