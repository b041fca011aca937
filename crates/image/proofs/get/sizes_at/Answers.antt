-- Each size is read at its place. Assumes nothing.
use Rattle.image.proofs.CardLaws.{six_sizes}
use Rattle.image.proofs.get.sizes_at.Goals as goal

pub returns : goal.returns
returns c =
    cc (six_sizes c.args.s.now c.args.at)
