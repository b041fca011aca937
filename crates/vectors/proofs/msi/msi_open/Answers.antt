-- The word is 0 where bus mastering is off. Assumes nothing.
use mathlib.Core.Path.{sym, ap, ◌∙◌}
use Prim.Native.Nat.{ℕ, ◌-◌, ◌^◌}
use lib.Bits.{bit_and}
use borrow.Author.Tests.{not-true, not-false}
use borrow.Author.Rules.{rules}
use Rattle.words.specs.Bits.{bit}
use Rattle.vectors.specs.Given.{regs}
use Rattle.vectors.proofs.MsiLaws.{no_master, by_word}
use Rattle.std.proofs.lemmas.Bool.{not_from_false, not_from_true}
use Rattle.vectors.proofs.msi.msi_open.Goals as goal

pub returns-then-not-command_bit : goal.returns-then-not-command_bit
returns-then-not-command_bit c =
    let call = c.command_bit in
    let a = c.args in
    λ t. no_master a.s (regs a.c.now t) (sym (call.ensures t) ∙ not-true call.result (not_from_false _ c.if-not-command_bit.true))

pub returns : goal.returns
returns c =
    let call = c.command_bit in
    let a = c.args in
    let g = c.granted in
    λ t v.
    ap (λ (x : ℕ). bit (bit_and x ((2 ^ 32 - 1) - c.masks.result)) v) c.below.ensures
    ∙ by_word a.s (regs a.c.now t) g.result c.masks.result g.ensures.2 (search rules) (g.ensures.0 t)
    (c.masks.ensures t) (c.requires.2 t) (sym (call.ensures t) ∙ not-false call.result (not_from_true _ c.if-not-command_bit.false)) v
