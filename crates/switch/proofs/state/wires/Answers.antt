use mathlib.Core.Path.{◌≡◌, ap}
use native.Mathlib.Omega.{arith}
use lib.ListN.{length}
use Rattle.switch.specs.declared.Port.{Port}
use Rattle.switch.specs.Switches.{idle}
use Rattle.words.proofs.ElementLaws.{element}
use borrow.Author.Rules.{rules}
use Rattle.switch.proofs.state.wires.Goals as goal

pub returns : goal.returns
returns c =
    let a = c.args in
    let n : length a.ports ≡ 8 = search rules in
    ap (λ (p : Port). p.wires) (element a.ports a.port _ idle (omega (arith, n, c.requires)))
