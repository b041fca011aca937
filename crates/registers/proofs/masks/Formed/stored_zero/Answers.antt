-- By the place of the byte. Assumes nothing.
use mathlib.Core.Path.{sym, ap, ◌∙◌}
use borrow.Author.Tests.{eq-eqb, ne_eqb}
use Rattle.words.proofs.ListLaws.{within-true}
use Rattle.model.specs.declared.Form.{Form}
use Rattle.registers.proofs.MaskLaws.{header-byte, msi-byte, other_byte}
use Rattle.registers.proofs.masks.Formed.stored_zero.Goals as goal

pub returns-then-i-eq6 : goal.returns-then-i-eq6
returns-then-i-eq6 c =
    let a = c.args in
    sym ((header-byte a.self.now.shape a.i c.if-i-lt64.true).1 ∙ rw (eq-eqb _ _ c.if-i-eq6.true))

pub returns-else-i-eq6 : goal.returns-else-i-eq6
returns-else-i-eq6 c =
    let a = c.args in
    sym ((header-byte a.self.now.shape a.i c.if-i-lt64.true).1 ∙ rw (ne_eqb _ _ c.if-i-eq6.false))

pub overflow_sub-i : goal.overflow_sub-i
overflow_sub-i c =
    let a = c.args in
    (within-true a.self.now.shape.msi.at _ a.i (sym c.within.ensures ∙ c.if-within.true)).0

pub returns-then-within : goal.returns-then-within
returns-then-within c =
    let a = c.args in
    let size = ap (λ (f : Form). f.size) c.args.self.now.is_form in
    c.msi_zero.ensures ∙ sym (msi-byte a.self.now.shape a.i a.self.now.form.size size c.if-i-lt64.false (sym c.within.ensures ∙ c.if-within.true)).1

pub returns : goal.returns
returns c =
    let a = c.args in
    let size = ap (λ (f : Form). f.size) c.args.self.now.is_form in
    sym (other_byte a.self.now.shape a.i a.self.now.form.size size c.if-i-lt64.false (sym c.within.ensures ∙ c.if-within.false)).1
