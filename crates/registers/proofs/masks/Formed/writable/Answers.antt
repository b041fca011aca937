-- By the place of the byte. Assumes nothing.
use mathlib.Core.Path.{sym, ap, ◌∙◌}
use borrow.Author.Tests.{eq-eqb, ne_eqb}
use Rattle.words.proofs.ListLaws.{within-true}
use Rattle.model.specs.declared.Form.{Form}
use Rattle.registers.proofs.MaskLaws.{header-byte, msi-byte, other_byte}
use Rattle.registers.proofs.masks.Formed.writable.Goals as goal

pub returns-then-i-lt64 : goal.returns-then-i-lt64
returns-then-i-lt64 c =
    let a = c.args in
    c.header_writable.ensures ∙ sym (header-byte a.self.now.shape a.i c.if-i-lt64.true).0

pub overflow_sub-i : goal.overflow_sub-i
overflow_sub-i c =
    let a = c.args in
    (within-true a.self.now.shape.msi.at _ a.i (sym c.within.ensures ∙ c.if-within.true)).0

pub returns-then-within : goal.returns-then-within
returns-then-within c =
    let a = c.args in
    let s = a.self.now.shape in
    let size = ap (λ (f : Form). f.size) a.self.now.is_form in
    c.msi_writable.ensures ∙ sym (msi-byte s a.i a.self.now.form.size size c.if-i-lt64.false (sym c.within.ensures ∙ c.if-within.true)).0

pub overflow_sub-i-then-within-2 : goal.overflow_sub-i-then-within-2
overflow_sub-i-then-within-2 c =
    let a = c.args in
    (within-true a.self.now.shape.msix.at 12 a.i (sym c.within-2.ensures ∙ c.if-within-2.true)).0

pub returns-then-i-self-eq3 : goal.returns-then-i-self-eq3
returns-then-i-self-eq3 c =
    let a = c.args in
    let size = ap (λ (f : Form). f.size) a.self.now.is_form in
    sym ((other_byte a.self.now.shape a.i a.self.now.form.size size c.if-i-lt64.false (sym c.within.ensures ∙ c.if-within.false)).0
    ∙ rw (sym c.within-2.ensures ∙ c.if-within-2.true, eq-eqb _ _ c.if-i-self-eq3.true))

pub returns-else-i-self-eq3 : goal.returns-else-i-self-eq3
returns-else-i-self-eq3 c =
    let a = c.args in
    let size = ap (λ (f : Form). f.size) a.self.now.is_form in
    sym ((other_byte a.self.now.shape a.i a.self.now.form.size size c.if-i-lt64.false (sym c.within.ensures ∙ c.if-within.false)).0
    ∙ rw (sym c.within-2.ensures ∙ c.if-within-2.true, ne_eqb _ _ c.if-i-self-eq3.false))

pub returns : goal.returns
returns c =
    let a = c.args in
    let s = a.self.now.shape in
    let size = ap (λ (f : Form). f.size) a.self.now.is_form in
    sym ((other_byte s a.i a.self.now.form.size size c.if-i-lt64.false (sym c.within.ensures ∙ c.if-within.false)).0
    ∙ rw (sym c.within-2.ensures ∙ c.if-within-2.false))
