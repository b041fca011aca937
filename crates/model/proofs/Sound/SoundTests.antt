-- One law for each way out of the soundness check. Assumes nothing.
use mathlib.Core.Path.{◌≡◌, refl}
use mathlib.Core.Bool.{Bool, true, false, ◌&&◌, beq}
use Prim.Native.Nat.{ℕ}
use lib.Dec.{eqb}
use Rattle.model.specs.declared.Shape.{Shape}
use Rattle.model.specs.Registers.{stored_zero, entry_zero}
use Rattle.model.specs.World.{World, Endpoint}
use Rattle.model.specs.Release.{owed_now, wire_due_of}
use Rattle.model.specs.Start.{start_refusal}
use Rattle.model.specs.Sound.{given_of, shape, zero_bits, waits_below, is_empty, sound_endpoint, sound}

drop-two : (a b c d : Bool) → (a && false && b && c && d) ≡ false
drop-two true b c d = refl
drop-two false b c d = refl

module _ (s : Shape) (u : Endpoint) where
  abbrev pub starts : Bool
  starts = eqb (start_refusal (given_of u)) 0

  -- starting refuses it
  pub unsound_start : (n : ℕ) → start_refusal (given_of u) ≡ n → eqb n 0 ≡ false → sound_endpoint s u ≡ false
  unfolding sound_endpoint
  unsound_start n e z = rw (e, z)

  -- a bit stored as 0 is 1, in the configuration, and in the table
  pub unsound_config : zero_bits (stored_zero s) u.function.config ≡ false → sound_endpoint s u ≡ false
  unfolding sound_endpoint
  unsound_config e = rw e (drop-two starts (zero_bits entry_zero u.table) (waits_below s u) (is_empty (owed_now s u)))

  pub unsound_table : zero_bits entry_zero u.table ≡ false → sound_endpoint s u ≡ false
  unfolding sound_endpoint
  unsound_table e = rw e (go (starts && zero_bits (stored_zero s) u.function.config))
    where
      go : (a : Bool) → (a && false && waits_below s u && is_empty (owed_now s u)) ≡ false
      go true = refl
      go false = refl

  -- a waiting bit beyond the card's vectors is 1
  pub unsound_below : waits_below s u ≡ false → sound_endpoint s u ≡ false
  unfolding sound_endpoint
  unsound_below e = rw e (go (starts && zero_bits (stored_zero s) u.function.config && zero_bits entry_zero u.table))
    where
      go : (a : Bool) → (a && false && is_empty (owed_now s u)) ≡ false
      go true = refl
      go false = refl

  -- all that passes: then whether nothing is owed
  pub sound-owed : start_refusal (given_of u) ≡ 0 → zero_bits (stored_zero s) u.function.config ≡ true → zero_bits entry_zero u.table ≡ true → waits_below s u ≡ true
      → sound_endpoint s u ≡ is_empty (owed_now s u)
  unfolding sound_endpoint
  sound-owed a b c d = rw (a, b, c, d)

-- the card: its function, and the wire
pub unsound_function : (w : World) → sound_endpoint (shape w.endpoint) w.endpoint ≡ false → sound w ≡ false
unfolding sound
unsound_function w e = rw e

pub sound-wire : (w : World) → sound_endpoint (shape w.endpoint) w.endpoint ≡ true → sound w ≡ beq w.wire (wire_due_of (shape w.endpoint) w.endpoint)
unfolding sound
sound-wire w e = rw e
