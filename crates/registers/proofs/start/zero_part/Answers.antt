use Rattle.std.proofs.Common.{ℕ, replicate, ap, ◌∙◌, rules, arith}
use Rattle.std.proofs.Common.{length-take, length-drop}
use Rattle.registers.proofs.PartLaws.{part_zeroed, part_none, part-all}
use Rattle.registers.proofs.start.zero_part.Goals as goal

pub returns-then-lo-hi : goal.returns-then-lo-hi
returns-then-lo-hi c =
    let a = c.args in
    part_zeroed a.lo a.hi a.config.now _ c.if-lo-hi.true (omega (arith, c.told-config, c.requires))
    (c.fill.ensures.after (λ y h. search rules)
    ∙ ap (λ (n : ℕ). replicate n 0) (simp (length-take, length-drop) (omega (arith, c.told-config, c.requires))))

pub returns-else-lo-hi : goal.returns-else-lo-hi
returns-else-lo-hi c =
    let a = c.args in
    λ k. part_none (λ k x. 0) a.lo a.config.now k ∙ part-all (λ k x. 0) a.lo a.config.now a.hi a.lo c.if-lo-hi.false (omega arith) k
