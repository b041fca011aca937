-- One case for each mechanism. Assumes nothing.
use Rattle.vectors.proofs.ChangeLaws.{changes-pin, changes-msi, changes-msix, msi_place, msix_place}
use Rattle.vectors.proofs.waiting.change_bit.Goals as goal

pub change_waiting-requires : goal.change_waiting-requires
change_waiting-requires g c =
    msi_place _ _ _ c.in-Msi.is c.requires.0 c.requires.2

pub change_pending-requires : goal.change_pending-requires
change_pending-requires g c =
    msix_place _ _ _ _ c.in-Msix.is c.requires.1 c.requires.2

pub returns-in-Pin : goal.returns-in-Pin
returns-in-Pin g c = changes-pin _ _ _ _ _ c.in-Pin.is

pub returns-in-Msi : goal.returns-in-Msi
returns-in-Msi g c = changes-msi _ _ _ _ _ _ c.in-Msi.is c.change_waiting.ensures

pub returns-in-Msix : goal.returns-in-Msix
returns-in-Msix g c =
    changes-msix _ _ _ _ _ _ c.in-Msix.is c.change_pending.ensures
