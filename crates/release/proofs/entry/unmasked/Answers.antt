-- Each turn clears the bit of the lowest vector that is left, where its entry is masked. Assumes nothing.
use mathlib.Core.Path.{refl}
use native.Mathlib.Omega.{arith}
use borrow.Author.Rules.{rules}
use Rattle.release.proofs.Among.{among_all, among_first, among_others, among_backed}
use Rattle.release.proofs.Masking.{masking_all, masking-next, masking_done}
use Rattle.release.proofs.entry.unmasked.Goals as goal

pub loop-v-init : goal.loop-v-init
loop-v-init c = rw c.into_iter-v-iterator.ensures.into_iter_gives (tt, tt, among_all 64 c.args.w, masking_all _ _ _ (search rules))

pub overflow_add-masked : goal.overflow_add-masked
overflow_add-masked c =
    omega (arith, among_backed c.args.table.now c.args.base c.args.w _ _ _ c.requires c.in-Some.ensures.steps c.loop-v.invariant.2)

pub overflow_mul-masked : goal.overflow_mul-masked
overflow_mul-masked c =
    omega (arith, among_backed c.args.table.now c.args.base c.args.w _ _ _ c.requires c.in-Some.ensures.steps c.loop-v.invariant.2)

pub overflow_add-masked-in-loop-v : goal.overflow_add-masked-in-loop-v
overflow_add-masked-in-loop-v c =
    omega (arith, among_backed c.args.table.now c.args.base c.args.w _ _ _ c.requires c.in-Some.ensures.steps c.loop-v.invariant.2)

pub bounds-table-base : goal.bounds-table-base
bounds-table-base c =
    omega (arith, among_backed c.args.table.now c.args.base c.args.w _ _ _ c.requires c.in-Some.ensures.steps c.loop-v.invariant.2)

pub overflow_shl-r : goal.overflow_shl-r
overflow_shl-r c = (among_first 64 c.args.w _ _ _ c.in-Some.ensures.steps c.loop-v.invariant.2).0

pub loop-v-preserved : goal.loop-v-preserved
loop-v-preserved c =
    let i = c.loop-v.invariant in
    let s = c.in-Some.ensures.steps in (
      tt,
      tt,
      among_others 64 c.args.w _ _ _ s i.2,
      masking-next _ _ _ _ _ _ c.in-Some.v _ i.3 s (among_first 64 c.args.w _ _ _ s i.2).0 refl,
    )

pub returns : goal.returns
returns c =
    masking_done c.args.table.now c.args.base c.args.w _ _ (search rules) c.in-None.ensures.steps.0 c.loop-v.invariant.3
