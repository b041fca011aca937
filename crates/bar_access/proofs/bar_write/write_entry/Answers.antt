-- The message is read off a copy of the entry before anything changes. Assumes nothing.
use mathlib.Core.Path.{sym, ◌∙◌}
use native.Mathlib.Omega.{arith}
use borrow.Author.Rules.{rules}
use Rattle.model.specs.World.{world_of}
use Rattle.bar_access.proofs.WriteFor.{owed-found, write_vector, write-entry, write_room, write_pending, write_small, write-quiet, write-short, write-sent}
use Rattle.bar_access.proofs.bar_write.write_entry.Goals as goal

pub entry_vector-v-requires : goal.entry_vector-v-requires
entry_vector-v-requires c =
    omega (arith, write_small _ _ _ _ c.requires.0 _ _ c.requires.1 c.requires.2)

pub entry_after-entry-requires : goal.entry_after-entry-requires
entry_after-entry-requires c =
    write-entry _ _ _ _ c.requires.0 _ _ c.requires.1 c.requires.2

pub is_owed-requires : goal.is_owed-requires
is_owed-requires c = (
  c.requires.0.profiled,
  omega (arith, c.entry_vector-v.ensures, write_vector _ _ _ _ c.requires.0 _ _ c.requires.1 c.requires.2),
  search rules,
)

pub table_written-requires : goal.table_written-requires
table_written-requires c =
    write_room _ _ _ _ c.requires.0 _ _ c.requires.1 c.requires.2

pub returns-then-not-is_owed : goal.returns-then-not-is_owed
returns-then-not-is_owed c =
    let a = c.args in
    let found =
    owed-found a.card a.table.now a.pending.now a.k a.at a.n a.value _ _ c.entry_vector-v.ensures
    c.entry_after-entry.result c.entry_after-entry.ensures (c.is_owed.ensures (world_of a.card a.table.now a.pending.now).endpoint _) in
    write-quiet _ _ _ _ c.requires.0 _ _ c.requires.1 c.requires.2 a.value _ _ (sym found ∙ c.if-not-is_owed.true) _
    c.table_written.ensures c.accepted.ensures

pub returns-then-out-message_size : goal.returns-then-out-message_size
returns-then-out-message_size c =
    let a = c.args in
    let found =
    owed-found a.card a.table.now a.pending.now a.k a.at a.n a.value _ _ c.entry_vector-v.ensures
    c.entry_after-entry.result c.entry_after-entry.ensures (c.is_owed.ensures (world_of a.card a.table.now a.pending.now).endpoint _) in
    write-short _ _ _ _ c.requires.0 _ _ c.requires.1 c.requires.2 a.value _ _ (sym found ∙ c.if-not-is_owed.false) _
    c.entry_after-entry.ensures _ c.entry_message-m.ensures _ c.message_size.ensures
    c.if-out-message_size.true c.refuse.ensures

pub table_written-requires-2 : goal.table_written-requires-2
table_written-requires-2 c =
    write_room _ _ _ _ c.requires.0 _ _ c.requires.1 c.requires.2

pub change_pending-requires : goal.change_pending-requires
change_pending-requires c =
    omega (arith, c.entry_vector-v.ensures, write_pending _ _ _ _ c.requires.0 _ _ c.requires.1 c.requires.2)

pub returns : goal.returns
returns c =
    let a = c.args in
    let found =
    owed-found a.card a.table.now a.pending.now a.k a.at a.n a.value _ _ c.entry_vector-v.ensures
    c.entry_after-entry.result c.entry_after-entry.ensures (c.is_owed.ensures (world_of a.card a.table.now a.pending.now).endpoint _) in
    write-sent _ _ _ _ c.requires.0 _ _ c.requires.1 c.requires.2 a.value _ _ (sym found ∙ c.if-not-is_owed.false) _
    c.entry_after-entry.ensures _ c.entry_message-m.ensures _ c.message_size.ensures
    _ _ _ _ c.if-out-message_size.false c.table_written-2.ensures
    _ c.entry_vector-v.ensures c.change_pending.ensures
    c.put_vector_message-count.ensures c.accepted-2.ensures
