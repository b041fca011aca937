-- One law for each way out. Assumes nothing.
use mathlib.Core.Path.{sym, ◌∙◌}
use native.Mathlib.Omega.{arith}
use Rattle.words.proofs.ListLaws.{within-true}
use Rattle.registers.proofs.MaskLaws.{control-writable, address_writable, data_byte, mask_register, not-writable}
use Rattle.registers.proofs.masks.Formed.msi_writable.Goals as goal

pub returns-then-k-lt4 : goal.returns-then-k-lt4
returns-then-k-lt4 c = c.control_writable.ensures ∙ sym (control-writable c.args.self.now.shape c.args.k c.if-k-lt4.true)

pub returns-then-k-eq4 : goal.returns-then-k-eq4
returns-then-k-eq4 c = sym (address_writable c.args.self.now.shape c.args.k c.if-k-eq4.true)

pub returns-then-k-data_bytes : goal.returns-then-k-data_bytes
returns-then-k-data_bytes c =
    let m = c.args.self.now in
    data_byte m.shape m.form m.is_form c.args.k (omega (arith, c.if-k-eq4.false)) (omega (arith, c.data_bytes.ensures.0, c.if-k-data_bytes.true))

pub overflow_sub-k-then-within : goal.overflow_sub-k-then-within
overflow_sub-k-then-within c = (within-true c.args.self.now.form.mask 4 c.args.k (sym c.within.ensures ∙ c.if-within.true)).0

pub mask_byte-requires : goal.mask_byte-requires
mask_byte-requires c =
    let m = within-true c.args.self.now.form.mask 4 c.args.k (sym c.within.ensures ∙ c.if-within.true) in
    omega arith

pub returns-then-within : goal.returns-then-within
returns-then-within c =
    let m = c.args.self.now in
    c.mask_byte.ensures
    ∙ mask_register m.shape m.form m.is_form c.args.k (omega (arith, c.if-k-eq4.false)) (omega (arith, c.data_bytes.ensures.0, c.if-k-data_bytes.false))
    (sym c.within.ensures ∙ c.if-within.true)

pub returns : goal.returns
returns c =
    let m = c.args.self.now in
    not-writable m.shape m.form m.is_form c.args.k (omega (arith, c.if-k-eq4.false)) (omega (arith, c.data_bytes.ensures.0, c.if-k-data_bytes.false))
    (sym c.within.ensures ∙ c.if-within.false)
