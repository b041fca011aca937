use Rattle.std.proofs.Common.{rules, ◌≡◌, ℕ, ◌<◌, Bool, List, false, get_or, ap, sym, ◌∙◌}
use native.Mathlib.Nat.{zero-add}
use Rattle.words.specs.Bits.{bit}
use Rattle.switch.specs.Switches.{port_of}
use Rattle.switch.proofs.JoinLaws.{listed}
use Rattle.capi_switch.specs.Crossing.{wires_in}
use Rattle.capi_switch.proofs.bytes.port_of.Goals as goal

pub returns : goal.returns
unfolding wires_in
returns c =
    let b = c.args.b in
    let items = c.from_fn.ensures.items in
    let each : (i : ℕ) → i < 4 → get_or c.from_fn.result i false ≡ bit b i = λ i h. let called = items.at i false h in search rules in
    ap (λ (w : List Bool). port_of w) (listed (bit b) false 0 4 c.from_fn.result items.long (λ i h. each i h ∙ ap (bit b) (sym (zero-add i))))
