-- One case for each mechanism. Assumes nothing.
use mathlib.Core.Path.{ap}
use mathlib.Core.Option.{some}
use Prim.Native.Nat.{ℕ, ◌%◌}
use Rattle.model.specs.Vectors.{vector_of}
use Rattle.vectors.specs.Mapping.{vector_in}
use Rattle.vectors.proofs.event.event_vector.Goals as goal

pub returns-in-Pin : goal.returns-in-Pin
unfolding vector_in vector_of
returns-in-Pin c = λ t. rw c.in-Pin.is

pub returns-in-Msi : goal.returns-in-Msi
unfolding vector_in vector_of
returns-in-Msi c =
    let a = c.args in
    λ t. rw c.in-Msi.is (ap (λ (g : ℕ). some (a.e.0 % g)) (c.granted.ensures.0 t))

pub returns-in-Msix : goal.returns-in-Msix
unfolding vector_in vector_of
returns-in-Msix c = λ t. rw c.in-Msix.is
