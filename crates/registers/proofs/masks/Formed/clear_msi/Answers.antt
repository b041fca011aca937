-- Three steps: control, address with data, masks with Pending. Assumes nothing.
use mathlib.Core.Path.{ap, ◌∙◌}
use Prim.Native.Nat.{ℕ, ◌+◌, min}
use native.Mathlib.Omega.{arith}
use Rattle.registers.proofs.ClearLaws.{message-small, msi-steps}
use Rattle.registers.proofs.masks.Formed.clear_msi.Goals as goal

pub overflow_add-message : goal.overflow_add-message
overflow_add-message c = omega (arith, message-small c.args.self.now.shape c.args.self.now.form c.args.self.now.is_form)

pub overflow_add-message-2 : goal.overflow_add-message-2
overflow_add-message-2 c = omega (arith, message-small c.args.self.now.shape c.args.self.now.form c.args.self.now.is_form)

pub returns : goal.returns
returns c =
    let a = c.args in
    msi-steps a.self.now.shape a.self.now.form c.args.self.now.is_form c.requires _ _ _ _ _ _
    c.part_end.ensures
    (c.part_end-2.ensures ∙ ap (λ (n : ℕ). min (a.self.now.shape.msi.at + n) 256) c.control_end.ensures.0)
    c.part_end-3.ensures
    (c.part_end-4.ensures ∙ ap (λ (n : ℕ). min (a.self.now.shape.msi.at + (a.self.now.form.message + n)) 256) c.data_bytes.ensures.0)
    c.part_end-5.ensures
    c.part_end-6.ensures _ _ _ c.zero_part-2.new.config c.fits-config
    c.fix_part.ensures
    c.zero_part.ensures
    c.zero_part-2.ensures
