use mathlib.Core.Path.{sym, ◌∙◌}
use borrow.Author.Rules.{rules}
use Rattle.words.proofs.ListLaws.{same_next, same_differs, same-past, other_lengths}
use Rattle.words.proofs.compare.same.Goals as goal

pub returns-then-a-b : goal.returns-then-a-b
returns-then-a-b c = other_lengths _ _ c.if-a-b.true

pub returns-then-a-i : goal.returns-then-a-i
returns-then-a-i c =
    let args = c.args in
    sym (same_differs args.a.now args.b.now c.loop-i.i (search rules) (search rules) c.if-a-i.true) ∙ c.loop-i.invariant.2

pub loop-i-preserved : goal.loop-i-preserved
loop-i-preserved c =
    let args = c.args in
    let next = same_next args.a.now args.b.now c.loop-i.i (search rules) (search rules) c.if-a-i.false in
    (search rules, c.loop-i.invariant.1, next ∙ c.loop-i.invariant.2)

pub returns : goal.returns
returns c =
    let args = c.args in
    sym (same-past args.a.now args.b.now c.loop-i.i (search rules) (search rules)) ∙ c.loop-i.invariant.2
