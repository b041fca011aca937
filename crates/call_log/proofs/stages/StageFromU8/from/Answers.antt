use borrow.Author.Tests.{ne_eqb}
use native.Mathlib.Omega.{arith}
use Rattle.call_log.specs.Stages.{stage_of}
use Rattle.call_log.proofs.stages.StageFromU8.from.Goals as goal

pub returns-in-0 : goal.returns-in-0
unfolding stage_of
returns-in-0 c = rw c.in-0.is

pub returns-in-1 : goal.returns-in-1
unfolding stage_of
returns-in-1 c = rw c.in-1.is

pub returns-in-2 : goal.returns-in-2
unfolding stage_of
returns-in-2 c = rw c.in-2.is

pub returns-in_default : goal.returns-in_default
unfolding stage_of
returns-in_default c =
    rw (ne_eqb c.args.b 0 (λ e. omega (arith, e)), ne_eqb c.args.b 1 (λ e. omega (arith, e)), ne_eqb c.args.b 2 (λ e. omega (arith, e)))
