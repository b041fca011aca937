-- One law for each way out. Assumes nothing.
use mathlib.Core.Path.{sym, ◌∙◌}
use Prim.Native.Nat.{ℕ, ◌+◌, ◌≤◌, ◌<◌}
use native.Mathlib.Omega.{arith}
use borrow.Author.Tests.{not-true, not-false}
use Rattle.words.proofs.ListLaws.{within-true}
use Rattle.registers.proofs.ShownLaws.{pending-fits, shown_status, shown-unmasked, shown-absent, shown-pending, shown-other}
use mathlib.Core.Path.{◌≡◌}
use mathlib.Core.Bool.{Bool, true}
use Rattle.words.specs.Lists.{within}
use Rattle.registers.proofs.config.shown_byte.Goals as goal
use Rattle.registers.proofs.config.shown_byte.Goals.{then-not-s-via-then-not-s, then-not-s-via-else-not-s+then-s-eq0}

pub returns-then-i-eq6 : goal.returns-then-i-eq6
returns-then-i-eq6 c =
    let a = c.args in
    c.status.ensures ∙ shown_status a.s a.line a.waiting a.i a.b c.if-i-eq6.true

pub returns-then-not-s : goal.returns-then-not-s
returns-then-not-s c =
    let a = c.args in
    elim c.then-not-s.branch [
      | then-not-s-via-then-not-s w ↦ shown-unmasked a.s a.line a.waiting a.i a.b c.if-i-eq6.false (not-true _ w.if-not-s.true)
      | then-not-s-via-else-not-s+then-s-eq0 w ↦ shown-absent a.s a.line a.waiting a.i a.b c.if-i-eq6.false w.if-s-eq0.true
    ]

pub overflow_add-at : goal.overflow_add-at
overflow_add-at c = omega (arith, c.requires.0, pending-fits c.args.s c.args.f c.requires.1 (not-false _ c.if-not-s.false))

in_register : (at i : ℕ) (b : Bool) → b ≡ within at 4 i → b ≡ true → (at ≤ i) × (i < at + 4)
in_register at i b e t = within-true at 4 i (sym e ∙ t)

pub overflow_sub-i : goal.overflow_sub-i
overflow_sub-i c = (in_register _ _ _ c.within.ensures c.if-within.true).0

pub byte_of-requires : goal.byte_of-requires
byte_of-requires c =
    let at = c.args.s.msi.at + c.args.f.pending in
    let k = in_register at c.args.i _ c.within.ensures c.if-within.true in
    omega arith

pub returns-then-within : goal.returns-then-within
returns-then-within c =
    let a = c.args in
    c.byte_of.ensures
    ∙ shown-pending a.s a.line a.waiting a.i a.b c.if-i-eq6.false a.f c.requires.1
    (not-false _ c.if-not-s.false) c.if-s-eq0.false (sym c.within.ensures ∙ c.if-within.true)

pub returns : goal.returns
returns c =
    let a = c.args in
    shown-other a.s a.line a.waiting a.i a.b c.if-i-eq6.false a.f c.requires.1
    (not-false _ c.if-not-s.false) c.if-s-eq0.false (sym c.within.ensures ∙ c.if-within.false)
