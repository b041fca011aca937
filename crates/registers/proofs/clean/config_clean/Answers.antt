-- One law for each way out. Assumes nothing.
use mathlib.Core.Path.{◌≡◌, ap}
use mathlib.Core.Bool.{true}
use Prim.Native.Nat.{◌+◌, ◌≤◌}
use native.Mathlib.Omega.{arith}
use borrow.Author.Tests.{not-true, not-false}
use Rattle.model.specs.declared.Form.{Form}
use Rattle.model.specs.declared.Shape.{Shape}
use Rattle.model.specs.Shape.{form_of}
use Rattle.model.proofs.Shapes.PlaceLaws.{size_large}
use Rattle.registers.proofs.MaskLaws.{masked}
use Rattle.registers.proofs.StoredLaws.{status_set, absent, address-set, unmasked, registers}
use Rattle.registers.proofs.clean.config_clean.Goals as goal

-- both registers end by byte FFh
room : (s : Shape) (f : Form) → s.msi.masks ≡ true → f ≡ form_of s → s.msi.at + (form_of s).size ≤ 256
    → (s.msi.at + f.mask + 4 ≤ 256) × (s.msi.at + f.pending + 4 ≤ 256)
room s f t e h =
    let m = masked s t in
    let g : f.mask ≡ (form_of s).mask = ap (λ (f : Form). f.mask) e in
    let d : f.pending ≡ (form_of s).pending = ap (λ (f : Form). f.pending) e in
    (omega (arith, m.next, m.last), omega (arith, m.last))

pub returns-then-c-ne0 : goal.returns-then-c-ne0
returns-then-c-ne0 c = status_set c.args.s c.args.c.now c.told-c c.if-c-ne0.true

pub returns-then-at-eq0 : goal.returns-then-at-eq0
returns-then-at-eq0 c = absent c.args.s c.args.c.now c.told-c c.if-c-ne0.false c.if-at-eq0.true

pub bounds-c-at : goal.bounds-c-at
bounds-c-at c = omega (arith, c.requires.0.ends, size_large c.args.s)

pub returns-then-c-at-ne0 : goal.returns-then-c-at-ne0
returns-then-c-at-ne0 c = address-set c.args.s c.args.c.now c.told-c c.if-c-ne0.false c.requires.0 c.if-at-eq0.false c.if-c-at-ne0.true

pub returns-then-not-s : goal.returns-then-not-s
returns-then-not-s c =
    unmasked c.args.s c.args.c.now c.told-c c.if-c-ne0.false c.requires.0 c.if-at-eq0.false c.if-c-at-ne0.false (not-true _ c.if-not-s.true)

pub overflow_add-at-2 : goal.overflow_add-at-2
overflow_add-at-2 c = omega (arith, (room c.args.s c.args.f (not-false _ c.if-not-s.false) c.requires.1 c.requires.0.ends).0)

pub word32-requires : goal.word32-requires
word32-requires c = omega (arith, c.told-c, (room c.args.s c.args.f (not-false _ c.if-not-s.false) c.requires.1 c.requires.0.ends).0)

pub overflow_add-at-3 : goal.overflow_add-at-3
overflow_add-at-3 c = omega (arith, (room c.args.s c.args.f (not-false _ c.if-not-s.false) c.requires.1 c.requires.0.ends).1)

pub word32-pending-requires : goal.word32-pending-requires
word32-pending-requires c = omega (arith, c.told-c, (room c.args.s c.args.f (not-false _ c.if-not-s.false) c.requires.1 c.requires.0.ends).1)

pub returns : goal.returns
returns c =
    registers c.args.s c.args.c.now c.told-c c.if-c-ne0.false c.requires.0 c.if-at-eq0.false c.if-c-at-ne0.false
    c.fits-c (not-false _ c.if-not-s.false)
    c.args.f c.requires.1 c.mask_bits.result c.word32.result c.word32-pending.result
    c.mask_bits.ensures c.word32.ensures c.word32-pending.ensures
