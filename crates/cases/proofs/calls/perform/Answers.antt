-- Each arm knows the kind, and cites what the call ensures; the last one is none of the others. Assumes nothing.
use Rattle.std.proofs.Common.{◌≤◌, length, sym, ap, ◌∙◌}
use Rattle.model.specs.World.{world_of}
use Rattle.model.specs.Calls.{Operation, operate}
use Rattle.cases.specs.Steps.{operation_by, room_by}
use Rattle.cases.proofs.RunLaws.{no_output, start_anywhere, saves}
use Rattle.cases.proofs.calls.perform.Goals as goal

pub returns-in-Start : goal.returns-in-Start
unfolding operation_by room_by
returns-in-Start c =
    let a = c.args in
    let none : length a.out.now ≤ 0 = rw c.in-Start.is at c.requires in
    rw c.in-Start.is (no_output _ _ _ _ _ none (c.start.ensures ∙ start_anywhere a.card a.table.now a.pending.now _ _ _ _))

pub returns-in-Read : goal.returns-in-Read
unfolding operation_by room_by
returns-in-Read c =
    let none : length c.args.out.now ≤ 0 = rw c.in-Read.is at c.requires in
    rw c.in-Read.is (no_output _ _ _ _ _ none c.config_read.ensures)

pub returns-in-BarRead : goal.returns-in-BarRead
unfolding operation_by room_by
returns-in-BarRead c =
    let none : length c.args.out.now ≤ 0 = rw c.in-BarRead.is at c.requires in
    rw c.in-BarRead.is (no_output _ _ _ _ _ none c.bar_read.ensures)

pub returns-in-Write : goal.returns-in-Write
unfolding operation_by
returns-in-Write c = rw c.in-Write.is c.config_write.ensures

pub returns-in-BarWrite : goal.returns-in-BarWrite
unfolding operation_by
returns-in-BarWrite c = rw c.in-BarWrite.is c.bar_write.ensures

pub returns-in-Line : goal.returns-in-Line
unfolding operation_by
returns-in-Line c = rw c.in-Line.is c.line.ensures

pub returns-in-Event : goal.returns-in-Event
unfolding operation_by
returns-in-Event c = rw c.in-Event.is c.event.ensures

pub returns-in_default : goal.returns-in_default
returns-in_default c =
    let a = c.args in
    let d = c.in_default in
    c.save.ensures
    ∙ ap (λ (o : Operation). operate (world_of a.card a.table.now a.pending.now) o)
    (sym (saves a.row.kind a.bytes.now a.row a.out.now d.not-Start d.not-Read d.not-BarRead d.not-Write d.not-BarWrite d.not-Line d.not-Event))
