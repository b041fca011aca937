use Rattle.std.proofs.Common.{[], arith, get_or, ap, sym, ◌∙◌, ℕ}
use lib.ListN.{length-set}
use native.Mathlib.Nat.{zero-add}
use Rattle.std.proofs.lemmas.List.Edits.{fill_by_more}
use Rattle.switch.specs.Joined.{turned_by, mapped_of}
use Rattle.switch.proofs.JoinLaws.{listed}
use Rattle.switch.proofs.join.mapped.Goals as goal

pub loop-k-preserved : goal.loop-k-preserved
loop-k-preserved c =
    let l = c.args.l in
    let v = c.loop-k in
    let turned = λ (k : ℕ). turned_by k (get_or l k []) in
    (simp length-set v.invariant.0, rw c.turned.ensures (fill_by_more turned v.rows v.k [] (omega arith) v.invariant.1))

pub returns : goal.returns
unfolding mapped_of
returns c =
    let l = c.args.l in
    let v = c.loop-k in
    let turned = λ (k : ℕ). turned_by k (get_or l k []) in
    listed turned [] 0 8 v.rows v.invariant.0 (λ j h. v.invariant.1 j (omega arith) ∙ ap turned (sym (zero-add j)))
