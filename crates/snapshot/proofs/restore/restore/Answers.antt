-- Refused with what is read of the image, or for the lengths of the lent buffers; else these are filled. Assumes nothing.
use native.Mathlib.Omega.{arith}
use borrow.Author.Tests.{ne_eqb}
use Rattle.model.proofs.RefusalLaws.{not_zero}
use Rattle.snapshot.proofs.RestoreFor.{restore-refused, room, other-table, other-pending, filled, restored}
use Rattle.snapshot.proofs.restore.restore.Goals as goal

pub returns-in-Err : goal.returns-in-Err
returns-in-Err c = restore-refused _ _ _ _ _ _ (c.in-Err.ensures _ _) (ne_eqb _ 0 (not_zero c.in-Err.why)) c.refuse.ensures

pub returns-then-table-held : goal.returns-then-table-held
returns-then-table-held c = other-table _ _ _ c.in-Ok.ensures _ _ _ _ c.if-table-held.true c.refuse-then-table-held.ensures

pub overflow_sub-image-2 : goal.overflow_sub-image-2
overflow_sub-image-2 c = omega (arith, room _ _ _ c.in-Ok.ensures)

pub returns-then-pending-image : goal.returns-then-pending-image
returns-then-pending-image c =
    other-pending _ _ _ c.in-Ok.ensures _ _ _ c.if-table-held.false _ c.if-pending-image.true c.refuse-then-pending-image.ensures

pub copy_buffers-requires : goal.copy_buffers-requires
copy_buffers-requires c =
    filled _ _ _ c.in-Ok.ensures c.args.card c.args.table.now c.args.pending.now c.if-table-held.false c.if-pending-image.false

pub returns : goal.returns
returns c =
    restored _ _ _ c.in-Ok.ensures _ c.args.table.now c.args.pending.now c.if-table-held.false c.if-pending-image.false _ _ _
    c.copy_buffers.ensures.0 c.copy_buffers.ensures.1 c.accepted.ensures
