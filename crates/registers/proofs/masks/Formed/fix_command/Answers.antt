-- A part of three bytes, one after another. Assumes nothing.
use mathlib.Core.Path.{◌≡◌}
use mathlib.Core.List.{List}
use Prim.Native.Nat.{ℕ}
use native.Mathlib.Omega.{arith}
use borrow.Author.Rules.{rules}
use lib.ListN.{length, set, length-set}
use Rattle.model.specs.Registers.{fixed_byte}
use Rattle.registers.proofs.PartLaws.{part-one, part-more}
use Rattle.registers.proofs.masks.Formed.fix_command.Goals as goal

pub returns : goal.returns
returns c =
    let a = c.args in
    let g : ℕ → ℕ → ℕ = fixed_byte a.self.now.shape in
    let o : List ℕ = a.config.now in
    let d₁ : List ℕ = set o 4 c.fixed_byte.result in
    let d₂ : List ℕ = set d₁ 5 c.fixed_byte-2.result in
    let size : length o ≡ 256 = search rules in
    part-more g 4 o d₂ 6 c.fixed_byte-3.result (omega arith) (simp length-set (omega (arith, size)))
    (part-more g 4 o d₁ 5 c.fixed_byte-2.result (omega arith) (simp length-set (omega (arith, size)))
    (part-one g 4 o c.fixed_byte.result (omega (arith, size)) c.fixed_byte.ensures) c.fixed_byte-2.ensures) c.fixed_byte-3.ensures
