-- The worked examples of request [4], computed: for each of its numbers a case in which it shows. docs/NUMBERS.md has the list. Assumes nothing.
use mathlib.Core.Bool.{Bool, true}
use lib.Dec.{T}
use Rattle.words.specs.Lists as Lists
use Rattle.model.specs.Examples.Parts.{agree}
use Rattle.model.proofs.Definitions.{definitions}
use Rattle.tlp.specs.Decoded as Decoded
use Rattle.switch.specs.Switches as Switches
use Rattle.switch.specs.Calls as Calls
use Rattle.switch.specs.Examples.Trials.{all_give}
use Rattle.switch.specs.Examples.Ports as Ports
use Rattle.switch.specs.Examples.Upstream as Upstream

-- the definitions of request [4] to be unfolded together
unfoldable pub switch_definitions : Bool
unfolding
    Decoded.as_message Decoded.as_wire Decoded.decoded_wire Decoded.decoded
    Switches.fresh Switches.level Switches.with_level Switches.without_port Switches.upstream_pin Lists.any Switches.drives Switches.upstream
    Calls.device_of Calls.bad_packet Calls.bad_call Calls.taking Calls.next_switch Calls.own_requester Calls.change_of Calls.changes Calls.forwarded Calls.forwarded_by Calls.sends
    Calls.refusal Calls.switch_step
switch_definitions = true

-- ports, pins, layouts, device numbers, room
pub ports : T (agree Ports.ports)
unfolding definitions switch_definitions
ports = tt

-- what goes upstream, byte for byte
pub upstream : T (all_give Upstream.upstream)
unfolding definitions switch_definitions
upstream = tt
