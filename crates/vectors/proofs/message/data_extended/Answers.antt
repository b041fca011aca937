-- Bit 9 by the shape, bit 10 by the register. Assumes nothing.
use mathlib.Core.Path.{◌∙◌}
use borrow.Author.Tests.{not-true, not-false}
use Rattle.vectors.specs.Given.{regs}
use Rattle.vectors.proofs.MessageLaws.{not_extended, is_extended}
use Rattle.vectors.proofs.message.data_extended.Goals as goal

pub returns-then-not-s : goal.returns-then-not-s
returns-then-not-s c =
    let a = c.args in
    λ t. not_extended a.s (regs a.c.now t) (not-true a.s.msi.extended c.if-not-s.true)

pub returns : goal.returns
returns c =
    let a = c.args in
    λ t. c.msi_control_bit.ensures t ∙ is_extended a.s (regs a.c.now t) (not-false a.s.msi.extended c.if-not-s.false)
