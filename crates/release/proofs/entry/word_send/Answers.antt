-- Each turn writes the message of the lowest vector that is left. Assumes nothing.
use mathlib.Core.List.{List}
use Prim.Native.Nat.{ℕ, ◌+◌}
use native.Mathlib.Omega.{arith}
use lib.ListN.{length-take, length-drop}
use borrow.Author.Rules.{rules}
use Rattle.words.proofs.Writers.{placed}
use Rattle.words.proofs.ListLaws.{join_first, join-none}
use Rattle.words.proofs.Sending.{sending_all, sending_fits, sending_next, sending_done}
use Rattle.model.specs.Packets.{entry_message}
use Rattle.release.proofs.Among.{among_all, among_others, among_backed}
use Rattle.release.proofs.entry.word_send.Goals as goal

-- the message of vector j of a word
abbrev packet : (requester : ℕ) (table : List ℕ) (base j : ℕ) → List ℕ
packet requester table base j = entry_message requester table (base + j)

pub loop-v-init : goal.loop-v-init
loop-v-init c = rw c.into_iter-v-iterator.ensures.into_iter_gives (tt, tt, among_all 64 c.args.w, sending_all _ _)

pub overflow_add-base : goal.overflow_add-base
overflow_add-base c =
    omega (arith, among_backed c.args.table.now c.args.base c.args.w _ _ _ c.requires.0 c.in-Some.ensures.steps c.loop-v.invariant.2)

pub put_entry-at-requires : goal.put_entry-at-requires
put_entry-at-requires c =
    let a = c.args in
    let p = packet a.requester a.table.now a.base in (
      among_backed a.table.now a.base a.w _ _ _ c.requires.0 c.in-Some.ensures.steps c.loop-v.invariant.2,
      simp (length-take, length-drop)
          (omega (arith, sending_fits _ _ _ _ _ (p c.in-Some.v) _ c.requires.1 c.loop-v.invariant.3 (join_first p c.in-Some.v _ _ c.in-Some.ensures.steps))),
    )

pub loop-v-preserved : goal.loop-v-preserved
loop-v-preserved c =
    let a = c.args in
    let p = packet a.requester a.table.now a.base in
    let call = c.put_entry-at in (
      tt,
      tt,
      among_others 64 a.w _ _ _ c.in-Some.ensures.steps c.loop-v.invariant.2,
      sending_next _ _ _ _ _ (p c.in-Some.v) _ _ call.result c.requires.1 c.loop-v.invariant.3 (join_first p c.in-Some.v _ _ c.in-Some.ensures.steps)
          call.ensures.count (search rules) (placed _ _ (p c.in-Some.v) call.new.out call.ensures.bytes),
    )

pub returns : goal.returns
returns c =
    let a = c.args in
    sending_done _ _ _ _ _ c.loop-v.invariant.3 (join-none (packet a.requester a.table.now a.base) _ c.in-None.ensures.steps.0)
