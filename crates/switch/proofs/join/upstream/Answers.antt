use mathlib.Core.Path.{ap, ◌∙◌}
use Rattle.switch.specs.Joined.{mapped_of, joined_of}
use Rattle.switch.proofs.JoinLaws.{joined_wires}
use Rattle.switch.proofs.join.upstream.Goals as goal

pub returns : goal.returns
returns c =
    c.joined.ensures ∙ ap joined_of (c.mapped.ensures ∙ ap mapped_of c.levels.ensures) ∙ joined_wires _
