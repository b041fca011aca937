-- Numbers as bits. No definition has a width. Assumes nothing.
use Rattle.std.specs.Prelude.{Bool, true, false, ℕ, ◌-◌, ◌/◌, ◌%◌, ◌^◌, eqb}
use Rattle.std.specs.Int.Bits.{bit_and, bit_or}

-- bit i of x
unfoldable pub bit : ℕ → ℕ → Bool
bit x i = eqb (x / 2 ^ i % 2) 1

-- the n bits of x from bit i on, as a number
unfoldable pub field : ℕ → ℕ → ℕ → ℕ
field x i n = x / 2 ^ i % 2 ^ n

-- a bit as a number
unfoldable pub of_bool : Bool → ℕ
of_bool true = 1
of_bool false = 0

-- x with the bits of mask cleared
unfoldable pub clear : ℕ → ℕ → ℕ
clear mask x = x - bit_and mask x

-- x with bit i cleared, and set
unfoldable pub clear_bit : ℕ → ℕ → ℕ
clear_bit x i = clear (2 ^ i) x

unfoldable pub set_bit : ℕ → ℕ → ℕ
set_bit x i = bit_or (2 ^ i) x

-- old with the bits of mask taken from new
unfoldable pub merge : ℕ → ℕ → ℕ → ℕ
merge mask old new = bit_or (bit_and mask new) (clear mask old)
