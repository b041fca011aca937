-- One case for each mechanism. Assumes nothing.
use Rattle.model.specs.Vectors.{vector_count}
use Rattle.vectors.proofs.count.vector_count.Goals as goal

pub returns-in-Pin : goal.returns-in-Pin
unfolding vector_count
returns-in-Pin c = rw c.in-Pin.is

pub returns-in-Msi : goal.returns-in-Msi
unfolding vector_count
returns-in-Msi c = rw c.in-Msi.is c.msi_vectors.ensures

pub returns-in-Msix : goal.returns-in-Msix
unfolding vector_count
returns-in-Msix c = rw c.in-Msix.is
