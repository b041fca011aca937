-- Each field is read at its offset. Assumes nothing.
use Rattle.model.specs.Image.{function_from}
use Rattle.image.proofs.get.function_from.Goals as goal

pub returns : goal.returns
unfolding function_from
returns g c = cc
