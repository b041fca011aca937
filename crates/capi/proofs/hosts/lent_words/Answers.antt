-- A lent slice of 32-bit numbers. Assumes nothing.
use Rattle.words.proofs.BytesLaws.{below-bytes}
use Rattle.capi.proofs.hosts.lent_words.Goals as goal

pub returns : goal.returns
returns c =
    (c.count.ensures, below-bytes _ (λ i. (c.shared_slice_known-1.given i).fits))
