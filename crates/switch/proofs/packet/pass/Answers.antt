-- Each way out cites one law of `CallFor`: a port above 7, a message, a wire packet, no packet. Assumes nothing.
use Rattle.std.proofs.Common.{◌≡◌, Some}
use mathlib.Core.Path.{sym, ◌∙◌}
use native.Mathlib.Omega.{arith}
use Rattle.tlp.specs.declared.decode.Packet.TheVariants.{Message, Wire}
use Rattle.tlp.specs.Decoded.{decoded}
use Rattle.tlp.proofs.RoundTrip.{decoded-wire}
use Rattle.switch.proofs.CallFor.{pass-high, pass-other, pass-message, pass-wire}
use Rattle.switch.proofs.packet.pass.Goals as goal

pub returns-then-port-gt7 : goal.returns-then-port-gt7
returns-then-port-gt7 c = pass-high _ _ _ _ _ c.if-port-gt7.true c.refuse.ensures

pub pass_wire-requires : goal.pass_wire-requires
pass_wire-requires c =
    let d : decoded c.args.packet.now ≡ Some (Wire c.in-Some-Wire.w) = cc in
    let pins = decoded-wire _ _ d in
    (omega (arith, c.if-port-gt7.false), pins.first, pins.last)

pub returns-in-Some-Message : goal.returns-in-Some-Message
returns-in-Some-Message c =
    let d : decoded c.args.packet.now ≡ Some (Message c.in-Some-Message.m) = cc in
    pass-message _ _ _ _ c.if-port-gt7.false _ _ d c.pass_message.ensures

pub returns-in-Some-Wire : goal.returns-in-Some-Wire
returns-in-Some-Wire c =
    let d : decoded c.args.packet.now ≡ Some (Wire c.in-Some-Wire.w) = cc in
    pass-wire _ _ _ _ c.if-port-gt7.false _ _ d c.pass_wire.ensures

pub returns-in-None : goal.returns-in-None
returns-in-None c =
    pass-other _ _ _ _ c.if-port-gt7.false _ (sym c.decode.ensures ∙ c.in-None.is) c.refuse-in-None.ensures
