use Rattle.std.proofs.Common.{rules, ◌≡◌, [], length, arith, ap, sym, ◌∙◌}
use lib.ListN.{length-set}
use native.Mathlib.Nat.{zero-add}
use Rattle.std.proofs.lemmas.List.Edits.{fill_by_more}
use Rattle.words.proofs.ElementLaws.{element}
use Rattle.switch.specs.declared.Port.{Port}
use Rattle.switch.specs.Switches.{idle, port_of, wires_of}
use Rattle.switch.specs.Joined.{levels_of}
use Rattle.switch.proofs.JoinLaws.{listed}
use Rattle.switch.proofs.join.levels.Goals as goal

pub loop-k-preserved : goal.loop-k-preserved
loop-k-preserved c =
    let s = c.args.s in
    let v = c.loop-k in
    let ports : length s.ports ≡ 8 = search rules in
    let row = ap (λ (p : Port). p.wires) (element s.ports v.k (port_of []) idle (omega arith)) in
    (simp length-set v.invariant.0, rw row (fill_by_more (wires_of s) v.rows v.k [] (omega arith) v.invariant.1))

pub returns : goal.returns
unfolding levels_of
returns c =
    let s = c.args.s in
    let v = c.loop-k in
    listed (wires_of s) [] 0 8 v.rows v.invariant.0 (λ j h. v.invariant.1 j (omega arith) ∙ ap (wires_of s) (sym (zero-add j)))
