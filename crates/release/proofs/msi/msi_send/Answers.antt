-- Each turn writes the message of the lowest vector that is left. Assumes nothing.
use mathlib.Core.Path.{◌≡◌, ap, subst}
use mathlib.Core.List.{List}
use Prim.Native.Nat.{ℕ, ◌+◌}
use native.Mathlib.Omega.{arith}
use lib.ListN.{length-take, length-drop}
use borrow.Author.Rules.{rules}
use Rattle.words.specs.Lists.{join}
use Rattle.words.proofs.Writers.{placed}
use Rattle.words.proofs.ListLaws.{join_first, join-none}
use Rattle.words.proofs.Sending.{Sending, sending_all, sending_fits, sending_next, sending_done}
use Rattle.model.specs.Packets.{message}
use Rattle.model.proofs.Vectors.PacketLaws.{message-length}
use Rattle.release.specs.Owed.{set_bits}
use Rattle.vectors.specs.declared.message.Message.{Message}
use Rattle.release.proofs.Among.{among_all, among_first, among_others, widened}
use Rattle.release.proofs.msi.msi_send.Goals as goal

-- the message of vector v
abbrev packet : (requester : ℕ) (base : Message) (v : ℕ) → List ℕ
packet requester base v = message requester base.upper base.address (base.value + v)

pub loop-v-init : goal.loop-v-init
loop-v-init c =
    let a = c.args in
    let p = packet a.requester a.base in
    let e : join p (set_bits 32 a.owed) ≡ join p (set_bits 64 a.owed) = ap (join p) (widened a.owed (search rules)) in
    rw c.into_iter-v-iterator.ensures.into_iter_gives
    (tt, tt, among_all 64 a.owed, subst (λ (todo : List ℕ). Sending (join p (set_bits 32 a.owed)) a.out.now a.out.now todo 0) e (sending_all _ _))

pub overflow_add-message : goal.overflow_add-message
overflow_add-message c =
    let f = among_first 64 c.args.owed _ _ _ c.in-Some.ensures.steps c.loop-v.invariant.2 in
    omega (arith, c.requires.0 _ f.1)

pub put_vector_message-at-requires : goal.put_vector_message-at-requires
put_vector_message-at-requires c =
    let a = c.args in
    let p = packet a.requester a.base in
    simp (length-take, length-drop)
    (omega (
      arith,
      sending_fits _ _ _ _ _ (p c.in-Some.v) _ c.requires.1 c.loop-v.invariant.3 (join_first p c.in-Some.v _ _ c.in-Some.ensures.steps),
      message-length a.requester a.base.upper a.base.address (a.base.value + c.in-Some.v),
    ))

pub loop-v-preserved : goal.loop-v-preserved
loop-v-preserved c =
    let a = c.args in
    let p = packet a.requester a.base in
    let call = c.put_vector_message-at in (
      tt,
      tt,
      among_others 64 a.owed _ _ _ c.in-Some.ensures.steps c.loop-v.invariant.2,
      sending_next _ _ _ _ _ (p c.in-Some.v) _ _ call.result c.requires.1 c.loop-v.invariant.3 (join_first p c.in-Some.v _ _ c.in-Some.ensures.steps)
          call.ensures.count (search rules) (placed _ _ (p c.in-Some.v) call.new.out call.ensures.bytes),
    )

pub returns : goal.returns
returns c =
    let a = c.args in
    sending_done _ _ _ _ _ c.loop-v.invariant.3 (join-none (packet a.requester a.base) _ c.in-None.ensures.steps.0)
