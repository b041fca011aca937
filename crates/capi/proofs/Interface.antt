-- The numbers of the interface, computed. Assumes nothing.
use lib.Dec.{T}
use Rattle.model.specs.Examples.Parts.{agree}
use Rattle.model.proofs.Definitions.{definitions}
use Rattle.capi.specs.Crossing.{unread}
use Rattle.capi.specs.Interface as Interface

pub interface : T (agree Interface.interface)
unfolding definitions unread
interface = tt
