-- One law for each way out. Assumes nothing.
use mathlib.Core.Path.{sym, ap, ◌∙◌}
use mathlib.Core.Bool.{true, false}
use Prim.Native.Nat.{ℕ, ◌-◌}
use native.Mathlib.Omega.{arith}
use borrow.Author.Tests.{eq-eqb, ne_eqb}
use Rattle.words.proofs.ListLaws.{within-true}
use Rattle.words.proofs.ByteLaws.{bytes_of_lt}
use Rattle.words.proofs.BitLaws.{clear-ones}
use Rattle.model.specs.Registers.{mask_bytes}
use Rattle.registers.proofs.MaskLaws.{low-zero, shut_mask, pending-register}
use Rattle.registers.proofs.masks.Formed.msi_zero.Goals as goal

pub returns-then-k-eq4 : goal.returns-then-k-eq4
returns-then-k-eq4 c = sym (low-zero c.args.self.now.shape c.args.k c.if-k-lt8.true ∙ rw (eq-eqb _ _ c.if-k-eq4.true))

pub returns-else-k-eq4 : goal.returns-else-k-eq4
returns-else-k-eq4 c = sym (low-zero c.args.self.now.shape c.args.k c.if-k-lt8.true ∙ rw (ne_eqb _ _ c.if-k-eq4.false))

pub overflow_sub-k : goal.overflow_sub-k
overflow_sub-k c = (within-true c.args.self.now.form.mask 4 c.args.k (sym c.within.ensures ∙ c.if-within.true)).0

pub mask_byte-requires : goal.mask_byte-requires
mask_byte-requires c =
    let m = within-true c.args.self.now.form.mask 4 c.args.k (sym c.within.ensures ∙ c.if-within.true) in
    omega arith

pub returns-then-within : goal.returns-then-within
unfolding mask_bytes
returns-then-within c =
    let m = c.args.self.now in
    ap (λ (x : ℕ). 0xff - x) c.mask_byte.ensures ∙ clear-ones 8 _ (bytes_of_lt 4 _ (c.args.k - m.form.mask))
    ∙ shut_mask m.shape m.form m.is_form c.args.k c.if-k-lt8.false (sym c.within.ensures ∙ c.if-within.true)

pub returns-then-within-2 : goal.returns-then-within-2
returns-then-within-2 c =
    let m = c.args.self.now in
    pending-register m.shape m.form m.is_form c.args.k true c.if-k-lt8.false
    (sym c.within.ensures ∙ c.if-within.false) (sym c.within-2.ensures ∙ c.if-within-2.true)

pub returns-else-within-2 : goal.returns-else-within-2
returns-else-within-2 c =
    let m = c.args.self.now in
    pending-register m.shape m.form m.is_form c.args.k false c.if-k-lt8.false
    (sym c.within.ensures ∙ c.if-within.false) (sym c.within-2.ensures ∙ c.if-within-2.false)
