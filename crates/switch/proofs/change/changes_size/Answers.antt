-- The sizes of four packets are the size of all. Assumes nothing.
use mathlib.Core.Path.{◌∙◌}
use Prim.Native.Nat.{◌+◌}
use Rattle.switch.proofs.WriteLaws.{all-lengths}
use Rattle.switch.proofs.change.changes_size.Goals as goal

pub returns : goal.returns
returns c =
    let a = c.args in
    λ requester.
    (λ i.
    c.change_size-a.ensures.1 requester 1 i + c.change_size-b.ensures.1 requester 2 i + c.change_size-c.ensures.1 requester 3 i
    + c.change_size-d.ensures.1 requester 4 i)
    ∙ all-lengths requester a.before a.after
