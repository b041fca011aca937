use mathlib.Core.Path.{refl}
use native.Mathlib.Omega.{arith}
use lib.ListN.{length-set}
use Rattle.words.proofs.PutLaws.{copy_next, copy_end}
use Rattle.words.proofs.put.put_slice.Goals as goal

pub loop-i-init : goal.loop-i-init
loop-i-init c = (refl, omega arith, refl, refl)

pub loop-i-preserved : goal.loop-i-preserved
loop-i-preserved c =
    let v = c.loop-i in
    let s = c.args.src.now in
    (refl, omega arith, simp length-set v.invariant.2, copy_next s v.i v.out _ v.invariant.3 (omega arith) (omega arith))

pub returns : goal.returns
returns c =
    let v = c.loop-i in
    let s = c.args.src.now in
    record { count = refl; bytes = copy_end s v.i v.out _ v.invariant.3 (omega arith) }
