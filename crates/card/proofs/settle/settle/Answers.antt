-- Both sizes are known before a byte is written; then the wire's packet, and behind it the sweep. Assumes nothing.
use native.Mathlib.Omega.{arith}
use lib.ListN.{length-take, length-drop}
use Rattle.model.specs.World.{endpoint_of}
use Rattle.model.proofs.Vectors.SettleLaws.{pin-small}
use Rattle.wire.proofs.WireLaws.{owed-length}
use Rattle.card.proofs.SettleFor.{settle-wire, settle_few, settle-short, settle-done}
use Rattle.card.proofs.settle.settle.Goals as goal

pub overflow_add-first : goal.overflow_add-first
overflow_add-first c =
    omega (arith, settle_few _ _ _ _ _ _ c.requires _ _ _ c.owed_size-first.ensures c.owed_size-rest.ensures)

pub returns-then-out-first : goal.returns-then-out-first
returns-then-out-first c =
    settle-short _ _ _ _ (endpoint_of c.args.f c.args.table.now c.args.pending.now) _
    (settle-wire _ _ _ _ _ _ c.requires _ c.command_bit-disabled.ensures _ c.set_mode-wired.ensures).1
    _ _ c.owed_size-first.ensures c.owed_size-rest.ensures _ _ c.if-out-first.true c.refuse.ensures

pub put_owed-at-requires : goal.put_owed-at-requires
put_owed-at-requires c =
    let pin = c.requires.pin c.args.table.now in
    (omega (arith, pin, pin-small _ _ c.requires.ready), omega (arith, c.if-out-first.false, c.owed_size-first.ensures))

pub send_owed-sent-requires : goal.send_owed-sent-requires
send_owed-sent-requires c = (
  c.requires.ready,
  c.requires.profiled,
  simp (length-take, length-drop)
      (omega (
        arith,
        c.put_owed-at.ensures.count,
        owed-length c.set_mode-wired.result.owed c.args.f.requester c.args.w.pin,
        c.owed_size-first.ensures,
        c.owed_size-rest.ensures,
        c.if-out-first.false,
        c.put_owed-at.auto.out,
      )),
)

pub returns : goal.returns
returns c =
    let wired = settle-wire _ _ _ _ _ _ c.requires _ c.command_bit-disabled.ensures _ c.set_mode-wired.ensures in
    settle-done _ _ _ _ (endpoint_of c.args.f c.args.table.now c.args.pending.now) _ wired.1 _ _ c.owed_size-first.ensures c.owed_size-rest.ensures
    _ _ _ _ _ _ _ _ _ _ c.if-out-first.false (c.requires.pin c.args.table.now) c.put_owed-at.ensures c.send_owed-sent.ensures
    wired.0 c.with_waiting-function.ensures c.accepted.ensures
