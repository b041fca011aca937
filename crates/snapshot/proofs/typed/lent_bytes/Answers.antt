-- A lent slice of bytes. Assumes nothing.
use Rattle.snapshot.proofs.typed.lent_bytes.Goals as goal

pub returns : goal.returns
returns c =
    (c.count.ensures, λ i. (c.shared_slice_known-1.given i).fits)
