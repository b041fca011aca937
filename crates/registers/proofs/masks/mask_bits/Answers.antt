-- 2^Capable is at most 32. Assumes nothing.
use Rattle.std.proofs.Common.{◌≡◌, ℕ, ◌*◌, ◌%◌, ◌^◌, ◌≤◌, arith}
use lib.Pow.{pow_mono}
use Rattle.words.proofs.LowestLaws.{one_shl}
use Rattle.registers.proofs.masks.mask_bits.Goals as goal

shifted : (k : ℕ) → k ≤ 5 → (1 * 2 ^ k) % 4294967296 ≡ 2 ^ k
shifted k h = one_shl 32 k (omega arith)

small : (k : ℕ) → k ≤ 5 → 2 ^ k ≤ 32
small k h = pow_mono h

pub below-requires : goal.below-requires
below-requires c = omega (arith, shifted c.args.s.msi.capable c.requires, small c.args.s.msi.capable c.requires)
