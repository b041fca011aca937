-- The field of bits 6:4, and what a structure's size leaves room for. Assumes nothing.
use native.Mathlib.Omega.{arith}
use Rattle.words.specs.Bits.{field}
use Rattle.model.specs.Vectors.{enable_field}
use Rattle.model.proofs.Shapes.PlaceLaws.{size_large}
use Rattle.vectors.proofs.granted.granted_log.Goals as goal

pub bounds-c-at : goal.bounds-c-at
bounds-c-at c = omega (arith, size_large c.args.s)

pub returns : goal.returns
unfolding enable_field field
returns c = (λ t. c.min.ensures, omega (arith, c.min.ensures, c.requires.capable))
