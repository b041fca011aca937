-- The register of the form, or none. Assumes nothing.
use mathlib.Core.Path.{ap, ◌∙◌}
use Prim.Native.Nat.{ℕ, ◌+◌}
use native.Mathlib.Omega.{arith}
use borrow.Author.Tests.{not-true, not-false}
use Rattle.words.specs.Bytes.{word32}
use Rattle.words.specs.Bits.{bit}
use Rattle.model.specs.declared.Form.{Form}
use Rattle.vectors.specs.Given.{regs}
use Rattle.vectors.proofs.MsiLaws.{no_masks, mask_register}
use Rattle.vectors.proofs.FormLaws.{mask_inside}
use Rattle.vectors.proofs.msi.masks.Goals as goal

pub returns-then-not-s : goal.returns-then-not-s
returns-then-not-s c =
    let a = c.args in
    λ t v h. no_masks a.s (regs a.c.now t) (not-true a.s.msi.masks c.if-not-s.true) v

pub overflow_add-s : goal.overflow_add-s
overflow_add-s c =
    let s = c.args.s in
    rw c.requires.1 (omega (arith, mask_inside s (not-false s.msi.masks c.if-not-s.false), c.requires.0.msi))

pub word32-requires : goal.word32-requires
word32-requires c =
    let s = c.args.s in
    rw c.requires.1 (omega (arith, mask_inside s (not-false s.msi.masks c.if-not-s.false), c.requires.0.msi))

pub returns : goal.returns
returns c =
    let a = c.args in
    λ t v h.
    ap (λ (x : ℕ). bit x v) (c.word32.ensures ∙ ap (λ (m : Form). word32 a.c.now (a.s.msi.at + m.mask)) c.requires.1)
    ∙ mask_register a.s (regs a.c.now t) (λ i. c.fits-c i) (not-false a.s.msi.masks c.if-not-s.false) v h
