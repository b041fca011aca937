-- The packet of either case is copied. Assumes nothing.
use mathlib.Core.Path.{◌≡◌, sym, ap, ◌∙◌}
use native.Mathlib.Omega.{arith}
use lib.ListN.{length}
use Rattle.model.specs.Packets.{message_size}
use Rattle.model.proofs.Vectors.PacketLaws.{message-length}
use Rattle.tlp.proofs.decode.Message.put.Goals as goal

pub put_slice-requires : goal.put_slice-requires
put_slice-requires c =
    let m = c.args.self in
    let n : length c.bytes.result ≡ message_size m.upper =
    ap length c.bytes.ensures ∙ message-length m.requester 0 m.address m.value ∙ ap message_size (sym c.if-self-eq0.true) in
    omega (arith, n, c.requires)

pub put_slice-requires-else-self-eq0 : goal.put_slice-requires-else-self-eq0
put_slice-requires-else-self-eq0 c =
    let m = c.args.self in
    let n : length c.bytes-else-self-eq0.result ≡ message_size m.upper =
    ap length c.bytes-else-self-eq0.ensures ∙ message-length m.requester m.upper m.address m.value in
    omega (arith, n, c.requires)
