-- A shift of 1 by at most 5 is the power of 2. Assumes nothing.
use mathlib.Core.Path.{ap}
use Prim.Native.Nat.{ℕ, ◌^◌, ◌≤◌}
use native.Mathlib.Omega.{arith}
use lib.Pow.{pow_pos, pow_mono}
use Rattle.words.proofs.LowestLaws.{one_shl}
use Rattle.model.specs.Vectors.{granted}
use Rattle.vectors.proofs.granted.granted.Goals as goal

pub returns : goal.returns
unfolding granted
returns c =
    let n = c.granted_log.result in
    let b : n ≤ 5 = c.granted_log.ensures.1 in
    rw (one_shl 32 n (omega arith)) (λ t. ap (λ (k : ℕ). 2 ^ k) (c.granted_log.ensures.0 t), pow_pos n, pow_mono b)
