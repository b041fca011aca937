-- Each turn counts the message of the lowest vector that is left. Assumes nothing.
use mathlib.Core.Path.{◌≡◌, sym, ap, ◌∙◌}
use mathlib.Core.List.{List, ◌∷◌}
use Prim.Native.Nat.{ℕ, ◌+◌, ◌*◌}
use native.Mathlib.Nat.{zero-add}
use native.Mathlib.Omega.{arith}
use lib.ListN.{length, length-append}
use Rattle.words.specs.Lists.{join}
use Rattle.words.specs.Bytes.{word32}
use Rattle.model.specs.Packets.{message_size, entry_message}
use Rattle.words.proofs.ListLaws.{join_first, join-none}
use Rattle.vectors.proofs.MessageLaws.{entry_length}
use Rattle.release.proofs.Among.{among_all, among_others, among_backed}
use Rattle.release.proofs.Entries.{word_le}
use Rattle.release.proofs.entry.word_size.Goals as goal

-- the message of vector j of a word
abbrev packet : (requester : ℕ) (table : List ℕ) (base j : ℕ) → List ℕ
packet requester table base j = entry_message requester table (base + j)

-- the size of a turn's message, and those of the rest
more : (requester : ℕ) (table : List ℕ) (base v n : ℕ) (l m : List ℕ) → l ≡ v ∷ m → n ≡ message_size (word32 table (16 * (base + v) + 4))
    → length (join (packet requester table base) l) ≡ n + length (join (packet requester table base) m)
more requester table base v n l m e s =
    let q = join (packet requester table base) m in
    ap length (join_first (packet requester table base) v l m e) ∙ length-append (packet requester table base v) q
    ∙ ap (λ (k : ℕ). k + length q) (entry_length requester table (base + v) ∙ sym s)

pub loop-v-init : goal.loop-v-init
loop-v-init c = rw c.into_iter-v-iterator.ensures.into_iter_gives (tt, tt, among_all 64 c.args.w, λ requester. zero-add _)

pub overflow_add-base : goal.overflow_add-base
overflow_add-base c =
    omega (arith, among_backed c.args.table.now c.args.base c.args.w _ _ _ c.requires c.in-Some.ensures.steps c.loop-v.invariant.2)

pub overflow_mul-base : goal.overflow_mul-base
overflow_mul-base c =
    omega (arith, among_backed c.args.table.now c.args.base c.args.w _ _ _ c.requires c.in-Some.ensures.steps c.loop-v.invariant.2)

pub overflow_add-base-in-loop-v : goal.overflow_add-base-in-loop-v
overflow_add-base-in-loop-v c =
    omega (arith, among_backed c.args.table.now c.args.base c.args.w _ _ _ c.requires c.in-Some.ensures.steps c.loop-v.invariant.2)

pub word32-requires : goal.word32-requires
word32-requires c =
    omega (arith, among_backed c.args.table.now c.args.base c.args.w _ _ _ c.requires c.in-Some.ensures.steps c.loop-v.invariant.2)

pub overflow_add-n : goal.overflow_add-n
overflow_add-n c =
    let a = c.args in
    omega (
      arith,
      more 0 a.table.now a.base _ _ _ _ c.in-Some.ensures.steps (c.message_size-n.ensures ∙ ap message_size c.word32.ensures),
      c.loop-v.invariant.3 0,
      word_le 0 a.table.now a.base a.w,
    )

pub loop-v-preserved : goal.loop-v-preserved
loop-v-preserved c =
    let a = c.args in
    let i = c.loop-v.invariant in (
      tt,
      tt,
      among_others 64 a.w _ _ _ c.in-Some.ensures.steps i.2,
      λ requester.
          omega (
            arith,
            more requester a.table.now a.base _ _ _ _ c.in-Some.ensures.steps (c.message_size-n.ensures ∙ ap message_size c.word32.ensures),
            i.3 requester,
          ),
    )

pub returns : goal.returns
returns c requester =
    let a = c.args in
    omega (arith, c.loop-v.invariant.3 requester, ap length (join-none (packet requester a.table.now a.base) _ c.in-None.ensures.steps.0))
