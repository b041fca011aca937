-- A shift of 1 in 64 bits is the power of 2, also at 32. Assumes nothing.
use Prim.Native.Nat.{◌^◌, ◌≤◌, ◌<◌, zero}
use native.Mathlib.Omega.{arith}
use lib.Pow.{pow_pos, pow_mono}
use Rattle.words.proofs.LowestLaws.{one_shl}
use Rattle.words.proofs.bits.below.Goals as goal

pub overflow_sub-result : goal.overflow_sub-result
overflow_sub-result c = rw (one_shl 64 c.args.n (omega arith)) (pow_pos c.args.n)

pub overflow_cast-result-2 : goal.overflow_cast-result-2
overflow_cast-result-2 c =
    let p : zero < 2 ^ c.args.n = pow_pos c.args.n in
    let m : 2 ^ c.args.n ≤ 2 ^ 32 = pow_mono c.requires in
    record { fits = rw (one_shl 64 c.args.n (omega arith)) (omega arith) }

pub returns : goal.returns
returns c = rw (one_shl 64 c.args.n (omega arith))
