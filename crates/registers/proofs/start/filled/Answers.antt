use mathlib.Core.Path.{◌≡◌, refl, sym}
use native.Mathlib.Omega.{arith}
use lib.ListN.{length, length-set}
use Rattle.std.proofs.Common.{rules}
use Rattle.words.proofs.PutLaws.{fill_start, fill_next, fill_end}
use Rattle.registers.proofs.start.filled.Goals as goal

pub loop-i-init : goal.loop-i-init
loop-i-init c = let n : length c.args.c.now ≡ 256 = search rules in (omega arith, n, fill_start _ _ (sym n))

pub loop-i-preserved : goal.loop-i-preserved
loop-i-preserved c =
    let v = c.loop-i in
    (omega arith, v.invariant.1, fill_next c.args.c.now v.config v.i _ (omega arith) refl v.invariant.2 (simp length-set))

pub returns : goal.returns
returns c =
    let v = c.loop-i in
    fill_end c.args.c.now v.config v.i (omega (arith, v.invariant.1)) v.invariant.2
