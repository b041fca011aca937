use Rattle.std.proofs.Common.{arith}
use Rattle.tlp.proofs.DecodeLaws.{next_packet}
use Rattle.cases.proofs.print_packets.Goals as goal

pub overflow_add-at : goal.overflow_add-at
overflow_add-at g c =
    let some = next_packet c.args.s.now c.loop-at.at _ c.loop-at-test.true c.first_length-n.ensures in
    omega arith

pub loop-at-smaller : goal.loop-at-smaller
loop-at-smaller g c =
    let some = next_packet c.args.s.now c.loop-at.at _ c.loop-at-test.true c.first_length-n.ensures in
    omega arith

pub loop-at-preserved : goal.loop-at-preserved
loop-at-preserved g c =
    let some = next_packet c.args.s.now c.loop-at.at _ c.loop-at-test.true c.first_length-n.ensures in
    omega arith
