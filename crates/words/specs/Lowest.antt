-- The lowest set bit of a number. Assumes nothing.
use Rattle.std.specs.Prelude.{◌≡◌, true, false, ℕ, ◌<◌}
use Rattle.words.specs.Bits.{bit}

-- bit v of w is set, and none below it
pub record Lowest (w v : ℕ) : Type 0 where
  pub set : bit w v ≡ true
  pub first : (i : ℕ) → i < v → bit w i ≡ false
