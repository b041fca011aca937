-- `form` meets its contract: the upper half of the data is in its length. Assumes nothing.
use Rattle.std.proofs.Common.{rules}
use Rattle.model.specs.Shape.{form_of}
use Rattle.layout.proofs.form.form.Goals as goal

pub returns : goal.returns
unfolding form_of
returns c = search rules
