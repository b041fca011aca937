-- The numbers of the switch's interface, computed. Assumes nothing.
use lib.Dec.{T}
use Rattle.model.specs.Examples.Parts.{agree}
use Rattle.model.proofs.Definitions.{definitions}
use Rattle.switch.proofs.Examples.{switch_definitions}
use Rattle.capi_switch.specs.Crossing as Crossing
use Rattle.capi_switch.specs.Hosts as Hosts
use Rattle.capi_switch.specs.Interface as Interface

pub interface : T (agree Interface.interface)
unfolding
    definitions switch_definitions
    Crossing.port_byte Crossing.switch_bytes Crossing.wires_in Crossing.switch_in Crossing.ports_clean Crossing.is_switch Crossing.crossed Crossing.started Hosts.wire_bit
interface = tt
