use Rattle.std.proofs.Common.{◌≡◌, rules, ℕ, ◌<◌, ◌+◌, ◌-◌, ◌%◌, false, get_or, ◌∙◌, ap, sym}
use native.Mathlib.Nat.{zero-add}
use Rattle.words.specs.Lists.{count}
use Rattle.switch.proofs.JoinLaws.{listed, turned-row}
use Rattle.switch.proofs.join.turned.Goals as goal

pub returns : goal.returns
unfolding count
returns c =
    let a = c.args in
    let each : (i : ℕ) → i < 4 → get_or c.from_fn.result i false ≡ get_or a.wires ((8 + i - a.port) % 4) false = λ i h. let w = c.from_fn.ensures.items.at i false h in search rules in
    listed (λ i. get_or a.wires ((8 + i - a.port) % 4) false) false 0 4 c.from_fn.result c.from_fn.ensures.items.long (λ i h. each i h ∙ ap (λ (j : ℕ). get_or a.wires ((8 + j - a.port) % 4) false) (sym (zero-add i)))
    ∙ turned-row a.port a.wires c.requires
