use mathlib.Core.Path.{ap, ◌∙◌}
use Rattle.model.specs.Shape.{shape_of}
use Rattle.model.specs.declared.Card.{Card}
use Rattle.capi_query.specs.Lengths.{told_of}
use Rattle.capi_query.proofs.lengths.held_lengths.Goals as goal

pub returns : goal.returns
returns c = c.lengths_of.ensures ∙ ap (λ (k : Card). told_of (shape_of k.function.config)) c.held_card-held.ensures
