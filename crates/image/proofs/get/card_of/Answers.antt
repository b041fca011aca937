-- The reader, from the flags on. Assumes nothing.
use Rattle.model.specs.Image.{card_in}
use Rattle.image.proofs.get.card_of.Goals as goal

pub returns : goal.returns
unfolding card_in
returns c = cc
