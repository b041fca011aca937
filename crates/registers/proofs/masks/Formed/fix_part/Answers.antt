use mathlib.Core.Path.{◌∙◌}
use native.Mathlib.Omega.{arith}
use borrow.Author.Rules.{rules}
use lib.ListN.{length-set}
use Rattle.model.specs.Registers.{fixed_byte}
use Rattle.registers.proofs.PartLaws.{part_none, part-more, part-all}
use Rattle.registers.proofs.masks.Formed.fix_part.Goals as goal

pub loop-i-init : goal.loop-i-init
loop-i-init c =
    let a = c.args in
    (omega arith, omega arith, search rules, part_none (fixed_byte a.self.now.shape) a.lo a.config.now)

pub loop-i-preserved : goal.loop-i-preserved
loop-i-preserved c =
    let a = c.args in
    let v = c.loop-i in (
      omega arith,
      omega arith,
      simp length-set v.invariant.2,
      part-more (fixed_byte a.self.now.shape) a.lo a.config.now v.config v.i c.fixed_byte.result (omega arith) (omega arith) v.invariant.3 c.fixed_byte.ensures,
    )

pub returns : goal.returns
returns c =
    let a = c.args in
    let v = c.loop-i in
    λ k. v.invariant.3 k ∙ part-all (fixed_byte a.self.now.shape) a.lo a.config.now a.hi v.i (omega arith) (omega arith) k
