-- The words that were passed owe nothing. Assumes nothing.
use mathlib.Core.Path.{sym, ap, ◌∙◌}
use mathlib.Core.List.{List, ◌++◌}
use Prim.Native.Nat.{ℕ, ◌+◌, ◌≤◌}
use native.Mathlib.Omega.{arith}
use lib.ListN.{length}
use Rattle.model.specs.Sound.{is_empty}
use Rattle.release.proofs.PendingWords.{owed_from, owed_all_lem, owed_split, owed_end, word_empty, word_nonempty}
use Rattle.release.proofs.msix.none_owed.Goals as goal

pub loop-at-init : goal.loop-at-init
loop-at-init c = (omega arith, sym (owed_all_lem _ _ c.requires))

pub returns-then-open_word-ne0 : goal.returns-then-open_word-ne0
returns-then-open_word-ne0 c =
    let opened = c.open_word in
    let room : c.loop-at.at + 8 ≤ length c.args.pending.now = omega (arith, c.loop-at.invariant.0, c.requires.words) in
    sym
    (ap is_empty (c.loop-at.invariant.1 ∙ owed_split c.args.table.now c.args.pending.now c.loop-at.at room)
    ∙ word_nonempty _ _ _ opened.result (λ i. (c.type_inv.pending i).fits) opened.ensures _ (omega arith) (omega (arith, opened.type_inv)))

pub loop-at-preserved : goal.loop-at-preserved
loop-at-preserved c =
    let opened = c.open_word in
    let table = c.args.table.now in
    let pending = c.args.pending.now in
    let room : c.loop-at.at + 8 ≤ length pending = omega (arith, c.loop-at.invariant.0, c.requires.words) in
    let e = word_empty _ _ _ opened.result (λ i. (c.type_inv.pending i).fits) opened.ensures c.if-open_word-ne0.false in (
      omega (arith, c.loop-at.invariant.0),
      c.loop-at.invariant.1 ∙ owed_split table pending c.loop-at.at room ∙ ap (λ (l : List ℕ). l ++ owed_from table pending (c.loop-at.at + 8)) e,
    )

pub returns : goal.returns
unfolding is_empty
returns c = sym (ap is_empty (c.loop-at.invariant.1 ∙ owed_end _ _ _ c.loop-at-test.false))

pub returns-else-open_word-ne0 : goal.returns-else-open_word-ne0
unfolding is_empty
returns-else-open_word-ne0 c =
    let opened = c.open_word in
    let table = c.args.table.now in
    let pending = c.args.pending.now in
    let room : c.loop-at.at + 8 ≤ length pending = omega (arith, c.loop-at.invariant.0, c.requires.words) in
    let past : length pending ≤ c.loop-at.at + 8 = omega arith in
    let e = word_empty _ _ _ opened.result (λ i. (c.type_inv.pending i).fits) opened.ensures c.if-open_word-ne0.false in
    sym
    (ap is_empty
    (c.loop-at.invariant.1 ∙ owed_split table pending c.loop-at.at room ∙ ap (λ (l : List ℕ). l ++ owed_from table pending (c.loop-at.at + 8)) e
    ∙ owed_end table pending (c.loop-at.at + 8) past))
