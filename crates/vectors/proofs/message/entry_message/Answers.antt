-- Three words of the entry. Assumes nothing.
use Rattle.vectors.specs.Entries.{message_in}
use Rattle.vectors.proofs.message.entry_message.Goals as goal

pub returns : goal.returns
unfolding message_in
returns c = rw (c.word32.ensures, c.word32-2.ensures, c.word32-3.ensures)
