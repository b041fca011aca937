-- The 16 bytes of the entry are copied, then written. Assumes nothing.
use Rattle.bar_access.proofs.EntryFor.{entry_copied}
use borrow.Author.Rules.{rules}
use Rattle.bar_access.proofs.entry.entry_after.Goals as goal

pub returns : goal.returns
returns c =
    entry_copied _ c.entry_of.result.now _ _ _ _ _ _ c.entry_of.ensures c.put_slice.ensures.bytes c.table_written.ensures
    c.requires.1 (search rules)
