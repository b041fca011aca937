-- A loop that writes the bytes of a number through masks, up to an end. Its invariant: what is left, written from the next place on,
-- gives the whole result w. Assumes nothing.
use mathlib.Core.Path.{◌≡◌}
use mathlib.Core.List.{List}
use Prim.Native.Nat.{ℕ, suc, ◌+◌, ◌-◌, ◌/◌, ◌%◌, ◌≤◌, ◌<◌}
use native.Mathlib.Omega.{arith}
use lib.ListN.{set}
use Rattle.words.specs.Bits.{merge}
use Rattle.words.specs.Bytes.{byte, bytes_of}
use Rattle.words.proofs.ByteLaws.{bytes_of-next, bytes_of_end}
use Rattle.model.specs.Registers.{written}

module _ (mask : ℕ → ℕ) (k end x : ℕ) (l w : List ℕ) (g : written mask l k (bytes_of (end - k) x) ≡ w) where
  -- byte k, which is b, is stored
  pub write_next : (b : ℕ) → k < end → b ≡ merge (mask k) (byte l k) (x % 256) → written mask (set l k b) (k + 1) (bytes_of (end - (k + 1)) (x / 256)) ≡ w
  unfolding written
  write_next b h e =
      let q : k + 1 ≡ suc k = omega arith in
      let d : written mask (set l k (merge (mask k) (byte l k) (x % 256))) (suc k) (bytes_of (end - (k + 1)) (x / 256)) ≡ w = rw (bytes_of-next end k x h) at g in
      rw (e, q) (rw q at d)

  -- nothing is left
  pub write_end : end ≤ k → l ≡ w
  unfolding written
  write_end h = rw (bytes_of_end end k x h) at g
