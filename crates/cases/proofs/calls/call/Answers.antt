-- The parts of the buffers that the call was lent, seen from the whole. Assumes nothing.
use mathlib.Core.Path.{ap, ◌∙◌}
use Prim.Native.Nat.{ℕ, min}
use Rattle.cases.proofs.RunLaws.{calls}
use Rattle.cases.proofs.calls.call.Goals as goal

pub returns : goal.returns
returns c =
    let args = c.args in
    let room = c.clipped-n.ensures.0 ∙ ap (λ (k : ℕ). min k 300) c.room.ensures in
    calls args.run args.bytes.now args.row _ _ _ _ _ _ _ c.clipped-t.ensures.0 c.clipped-p.ensures.0 room
    c.table-4-1.given c.pending-4-1.given c.out-3-1.given c.perform-outcome.ensures
