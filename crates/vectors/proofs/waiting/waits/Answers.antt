-- One case for each mechanism. Assumes nothing.
use Rattle.model.specs.Vectors.{waits, pending_bit}
use Rattle.vectors.proofs.waiting.waits.Goals as goal

pub returns-in-Pin : goal.returns-in-Pin
unfolding waits pending_bit
returns-in-Pin c = λ u. rw c.in-Pin.is

pub returns-in-Msi : goal.returns-in-Msi
unfolding waits pending_bit
returns-in-Msi c = λ u. rw c.in-Msi.is c.msi_waits.ensures

pub returns-in-Msix : goal.returns-in-Msix
unfolding waits pending_bit
returns-in-Msix c = λ u. rw c.in-Msix.is c.msix_waits.ensures
