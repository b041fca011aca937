-- The message of the vector's entry. Assumes nothing.
use Rattle.vectors.proofs.EntryLaws.{vector-packet}
use Rattle.vectors.proofs.message.msix_message.Goals as goal

pub returns : goal.returns
returns c =
    λ s requester d. vector-packet _ _ _ c.entry_of.ensures.1 _ c.entry_message.ensures requester s d
