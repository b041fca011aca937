-- Two bytes of the requester ID, then what `port_byte` gives for the wires of each port. Assumes nothing.
use mathlib.Core.Path.{ap, ◌∙◌}
use mathlib.Core.List.{[], ◌∷◌}
use Prim.Native.Nat.{◌/◌, ◌%◌}
use Rattle.words.specs.Lists.{count}
use Rattle.words.specs.Bytes.{bytes_of}
use Rattle.capi_switch.specs.Crossing.{port_byte, switch_bytes}
use Rattle.capi_switch.proofs.bytes.bytes_of.Goals as goal

pub returns : goal.returns
unfolding switch_bytes bytes_of count
returns c =
    let a = c.args in
    λ i.
    a.s.requester % 256
    ∷ a.s.requester / 256 % 256
    ∷ (c.port_byte.ensures ∙ ap port_byte c.wires.ensures) i
    ∷ (c.port_byte-2.ensures ∙ ap port_byte c.wires-2.ensures) i
    ∷ (c.port_byte-3.ensures ∙ ap port_byte c.wires-3.ensures) i
    ∷ (c.port_byte-4.ensures ∙ ap port_byte c.wires-4.ensures) i
    ∷ (c.port_byte-5.ensures ∙ ap port_byte c.wires-5.ensures) i
    ∷ (c.port_byte-6.ensures ∙ ap port_byte c.wires-6.ensures) i
    ∷ (c.port_byte-7.ensures ∙ ap port_byte c.wires-7.ensures) i
    ∷ (c.port_byte-8.ensures ∙ ap port_byte c.wires-8.ensures) i
    ∷ []
