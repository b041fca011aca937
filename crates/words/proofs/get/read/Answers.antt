use Rattle.std.proofs.Common.{rules, ◌≡◌, arith, ◌+◌, ◌-◌, ◌<◌, ◌^◌, take, drop}
use Rattle.words.proofs.ReadLaws.{reads_start, reads_small, reads_next, reads_end}
use Rattle.words.proofs.get.read.Goals as goal

pub loop-x-init : goal.loop-x-init
loop-x-init c =
    let a = c.args in
    let n : a.at + a.n - a.at ≡ a.n = omega arith in
    let q : c.into_iter-x-iterator.result.iter.rest.now ≡ take a.n (drop a.at a.s.now) = cc in
    rw q (reads_start a.s.now a.at a.n c.requires.1)

pub overflow_mul-r : goal.overflow_mul-r
overflow_mul-r c =
    let a = c.args in
    let small : c.loop-x.r < 256 ^ 7 =
    reads_small a.s.now a.at a.n _ _ _ c.loop-x.r c.in-Some.ensures.steps c.loop-x.invariant (λ k. (c.type_inv.s k).fits) c.requires.0 in
    search rules

pub overflow_add-r : goal.overflow_add-r
overflow_add-r c =
    let a = c.args in
    let small : c.loop-x.r < 256 ^ 7 =
    reads_small a.s.now a.at a.n _ _ _ c.loop-x.r c.in-Some.ensures.steps c.loop-x.invariant (λ k. (c.type_inv.s k).fits) c.requires.0 in
    search rules

pub loop-x-preserved : goal.loop-x-preserved
loop-x-preserved c =
    let a = c.args in
    rw c.from.ensures (reads_next a.s.now a.at a.n _ _ _ c.loop-x.r c.in-Some.ensures.steps c.loop-x.invariant)

pub returns : goal.returns
returns c =
    let a = c.args in
    reads_end a.s.now a.at a.n _ c.loop-x.r c.in-None.ensures.steps.0 c.loop-x.invariant
