-- Byte 3Dh. Assumes nothing.
use mathlib.Core.Path.{refl}
use Rattle.model.specs.Release.{pin_number}
use Rattle.vectors.proofs.pin.pin_number.Goals as goal

pub returns : goal.returns
unfolding pin_number
returns c = λ t. refl
