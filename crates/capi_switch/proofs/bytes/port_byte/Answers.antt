use Prim.Native.Nat.{◌+◌, ◌*◌}
use Rattle.capi_switch.specs.Crossing.{port_byte}
use Rattle.capi_switch.proofs.bytes.port_byte.Goals as goal

pub returns : goal.returns
unfolding port_byte
returns c =
    λ i. c.flag.ensures.0 i + 2 * c.flag-2.ensures.0 i + 4 * c.flag-3.ensures.0 i + 8 * c.flag-4.ensures.0 i
