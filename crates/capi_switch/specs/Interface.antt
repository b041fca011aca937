-- The numbers of the switch's interface, each beside the one that the definitions give. Assumes nothing.
use Rattle.std.specs.Prelude.{true, List, [], ◌∷◌, ◌++◌, ℕ, replicate, set}
use Rattle.words.specs.Lists.{same}
use Rattle.words.specs.Bits.{of_bool}
use Rattle.switch.specs.Switches.{fresh, with_level}
use Rattle.switch.specs.Calls.{down}
use Rattle.capi_switch.specs.Crossing.{switch_bytes, switch_in, crossed, started}
use Rattle.capi_switch.specs.Hosts.{wire_bit}

-- a going down of port 0 on n bytes of zeros but for byte x at a place
abbrev of_call : (n place x : ℕ) → ℕ
of_call n place x = (crossed (set (replicate n 0) place x) (down 0 (replicate 64 0))).refusal

-- a start over n bytes FFh
abbrev of_start : (n requester : ℕ) → ℕ
of_start n requester = (started (replicate n 0xff) requester).refusal

abbrev refusals : List (ℕ × ℕ)
refusals =
    -- 10 bytes
    (0, of_call 10 0 0)
    ∷ (60, of_call 9 0 0)
    ∷ (60, of_call 11 0 0)
    -- any requester ID; the bytes from the third on are the ports', at most 15
    ∷ (0, of_call 10 0 0xff)
    ∷ (0, of_call 10 1 0xff)
    ∷ (0, of_call 10 2 15)
    ∷ (60, of_call 10 2 16)
    ∷ (0, of_call 10 9 15)
    ∷ (60, of_call 10 9 16)
    ∷ (60, of_call 10 9 0xff)
    -- a start takes 10 bytes of any contents and a requester ID of 16 bits
    ∷ (0, of_start 10 0xffff)
    ∷ (60, of_start 10 0x10000)
    ∷ (60, of_start 9 0)
    ∷ (60, of_start 11 0)
    ∷ []

-- requester ID 0107h, low byte first; then the ports from 0 to 7: pin 1 is bit 0, pin 4 bit 3
abbrev written : List ℕ
written = 0x07 ∷ 0x01 ∷ 0x01 ∷ 0 ∷ 0 ∷ 0 ∷ 0 ∷ 0 ∷ 0x02 ∷ 0x08 ∷ []

abbrev bytes : List (ℕ × ℕ)
bytes =
    (1, of_bool (same (switch_bytes (with_level (with_level (with_level (fresh 0x0107) 0 1 true) 6 2 true) 7 4 true)) written))
    ∷ (1, of_bool (same (switch_bytes (switch_in written)) written))
    ∷ (1, of_bool (wire_bit written 0 1))
    ∷ (1, of_bool (wire_bit written 6 2))
    ∷ (1, of_bool (wire_bit written 7 4))
    ∷ (0, of_bool (wire_bit written 7 3))
    ∷ []

abbrev pub interface : List (ℕ × ℕ)
interface = refusals ++ bytes
