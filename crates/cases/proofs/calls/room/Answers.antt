use Rattle.cases.proofs.RunLaws.{no_room_of, packet_room, own_room}
use Rattle.cases.proofs.calls.room.Goals as goal

pub returns-in-Start : goal.returns-in-Start
returns-in-Start c = no_room_of c.args.row.kind c.args.row c.in-Start.is

pub returns-in-Write : goal.returns-in-Write
returns-in-Write c = packet_room c.args.row.kind c.args.row c.in-Write.is

pub returns-in_default : goal.returns-in_default
returns-in_default c =
    let d = c.in_default in
    own_room c.args.row.kind c.args.row d.not-Start d.not-Read d.not-BarRead d.not-Write d.not-BarWrite d.not-Line
