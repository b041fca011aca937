use Rattle.std.proofs.Common.{◌≡◌, rules, ℕ, ◌<◌, ◌+◌, false, get_or, arith, ap, ◌∙◌}
use Rattle.switch.specs.Joined.{active_in, joined_of}
use Rattle.switch.proofs.JoinLaws.{listed}
use Rattle.switch.proofs.join.joined.Goals as goal

pub returns : goal.returns
unfolding joined_of
returns c =
    let m = c.args.m in
    let each : (i : ℕ) → i < 4 → get_or c.from_fn.result i false ≡ active_in m (i + 1) = λ i h. let w = c.from_fn.ensures.items.at i false h in search rules in
    listed (active_in m) false 1 4 c.from_fn.result c.from_fn.ensures.items.long (λ i h. each i h ∙ ap (active_in m) (omega arith))
