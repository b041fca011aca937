-- Document 02, request [3]: a withdrawal names a vector of the mechanism in force, clears its waiting bit and says whether it was set. Assumes nothing.
use Rattle.std.specs.Prelude.{Bool, List, [], ◌∷◌, ℕ, leb}
use Rattle.words.specs.Bits.{of_bool, clear_bit}
use Rattle.model.specs.declared.Mode.{Mode}
use Rattle.model.specs.World.{Endpoint, registers}
use Rattle.model.specs.Vectors.{mode_of, waits, change_waiting, vector_count}
use Rattle.model.specs.Release.{is_pin}
use Rattle.model.specs.Sound.{shape}

-- the mechanism in force
abbrev pub mode_now : Endpoint → Mode
mode_now u = mode_of (shape u) (registers u)

-- 7: the pin is in force; then 2: a vector at or above N, or 2^Capable
unfoldable pub withdraw_rows : Endpoint → ℕ → List (ℕ × Bool)
withdraw_rows u v = (7, is_pin (mode_now u)) ∷ (2, leb (vector_count (mode_now u) (shape u)) v) ∷ []

-- the function with the vector's waiting bit cleared; the other mechanism's bit of that number stays
unfoldable pub withdrawn : Endpoint → ℕ → Endpoint
withdrawn u v = change_waiting clear_bit (mode_now u) u v

-- 1 if the bit was set, else 0
unfoldable pub was_set : Endpoint → ℕ → ℕ
was_set u v = of_bool (waits (mode_now u) u v)
