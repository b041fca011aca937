-- The later of 40h and MSI's place, in either way out. Assumes nothing.
use mathlib.Core.Path.{◌≡◌, ap, ap₂, ◌∙◌}
use Prim.Native.Nat.{ℕ, ◌+◌, min, max}
use native.Mathlib.Omega.{arith}
use Rattle.registers.specs.Parts.{part_fixed}
use Rattle.registers.proofs.masks.Formed.fix_msi.Goals as goal

pub returns-then-self-lt64 : goal.returns-then-self-lt64
returns-then-self-lt64 c =
    let a = c.args in
    let lo : 64 ≡ max 64 a.self.now.shape.msi.at = omega (arith, c.if-self-lt64.true) in
    λ k. c.fix_part.ensures k
    ∙ ap₂ (λ (l h : ℕ). part_fixed a.self.now.shape l h a.config.now k) lo c.part_end.ensures

pub returns-else-self-lt64 : goal.returns-else-self-lt64
returns-else-self-lt64 c =
    let a = c.args in
    let lo : a.self.now.shape.msi.at ≡ max 64 a.self.now.shape.msi.at = omega (arith, c.if-self-lt64.false) in
    λ k. c.clear_msi.ensures k
    ∙ ap (λ (l : ℕ). part_fixed a.self.now.shape l (min (a.self.now.shape.msi.at + a.self.now.form.size) 256) a.config.now k) lo
