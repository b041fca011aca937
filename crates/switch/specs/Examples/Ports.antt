-- Request [4]: ports, pins and refusals of a switch, each number beside the one that the definitions give. Assumes nothing.
use Rattle.std.specs.Prelude.{true, List, [], ◌∷◌, ◌++◌, ℕ, replicate, take, set}
use Rattle.switch.specs.Switches.{fresh, upstream_pin, with_level}
use Rattle.switch.specs.Calls.{pass, down, refusal}
use Rattle.switch.specs.Examples.Trials.{wire_packet, short_message, long_message}

-- ---- "card pin p (1 to 4) becomes upstream pin ((k + p - 1) mod 4) + 1", port k from 0 to 7

abbrev pub upstream_pins : List (ℕ × ℕ)
upstream_pins =
    (1, upstream_pin 0 1) ∷ (2, upstream_pin 0 2) ∷ (3, upstream_pin 0 3) ∷ (4, upstream_pin 0 4)
    ∷ (2, upstream_pin 1 1) ∷ (3, upstream_pin 1 2) ∷ (4, upstream_pin 1 3) ∷ (1, upstream_pin 1 4)
    ∷ (3, upstream_pin 2 1) ∷ (4, upstream_pin 2 2) ∷ (1, upstream_pin 2 3) ∷ (2, upstream_pin 2 4)
    ∷ (4, upstream_pin 3 1) ∷ (1, upstream_pin 3 2) ∷ (2, upstream_pin 3 3) ∷ (3, upstream_pin 3 4)
    ∷ (1, upstream_pin 4 1) ∷ (2, upstream_pin 4 2) ∷ (3, upstream_pin 4 3) ∷ (4, upstream_pin 4 4)
    ∷ (2, upstream_pin 5 1) ∷ (3, upstream_pin 5 2) ∷ (4, upstream_pin 5 3) ∷ (1, upstream_pin 5 4)
    ∷ (3, upstream_pin 6 1) ∷ (4, upstream_pin 6 2) ∷ (1, upstream_pin 6 3) ∷ (2, upstream_pin 6 4)
    ∷ (4, upstream_pin 7 1) ∷ (1, upstream_pin 7 2) ∷ (2, upstream_pin 7 3) ∷ (3, upstream_pin 7 4) ∷ []

-- ---- the refusal of a call of a fresh switch with requester ID 0107h

abbrev of_pass : (port : ℕ) → List ℕ → ℕ
of_pass port bytes = refusal (fresh 0x0107) (pass port bytes (replicate 64 0))

abbrev of_packet : List ℕ → ℕ
of_packet bytes = of_pass 0 bytes

-- "a port above 7"
abbrev pub port_numbers : List (ℕ × ℕ)
port_numbers =
    (0, of_pass 0 (wire_packet 2 0 0x20)) ∷ (0, of_pass 7 (wire_packet 2 0 0x20)) ∷ (50, of_pass 8 (wire_packet 2 0 0x20)) ∷ (50, of_pass 256 (wire_packet 2 0 0x20))
    ∷ (0, of_pass 7 (short_message 2 0 0)) ∷ (50, of_pass 8 (short_message 2 0 0))
    ∷ (0, refusal (fresh 0x0107) (down 7 [])) ∷ (50, refusal (fresh 0x0107) (down 8 [])) ∷ []

-- "no single packet in 01's layouts": lengths, first byte, upper address 0, codes
abbrev pub layouts : List (ℕ × ℕ)
layouts =
    (0, of_packet (short_message 2 0 0)) ∷ (50, of_packet (take 15 (short_message 2 0 0))) ∷ (50, of_packet (short_message 2 0 0 ++ (0 ∷ [])))
    ∷ (0, of_packet (long_message 2 0 1 0)) ∷ (50, of_packet (take 19 (long_message 2 0 1 0))) ∷ (50, of_packet (long_message 2 0 1 0 ++ (0 ∷ [])))
    ∷ (50, of_packet (long_message 2 0 0 0)) ∷ (50, of_packet (set (short_message 2 0 0) 0 0x41)) ∷ (50, of_packet (set (short_message 2 0 0) 7 0x0e))
    ∷ (50, of_packet []) ∷ (50, of_packet (short_message 2 0 0 ++ short_message 2 0 0))
    ∷ (50, of_packet (wire_packet 2 0 0x1f)) ∷ (0, of_packet (wire_packet 2 0 0x20)) ∷ (0, of_packet (wire_packet 2 0 0x23))
    ∷ (0, of_packet (wire_packet 2 0 0x24)) ∷ (0, of_packet (wire_packet 2 0 0x27)) ∷ (50, of_packet (wire_packet 2 0 0x28))
    ∷ (50, of_packet (take 15 (wire_packet 2 0 0x20))) ∷ (50, of_packet (wire_packet 2 0 0x20 ++ (0 ∷ []))) ∷ (50, of_packet (set (wire_packet 2 0 0x20) 15 1))
    ∷ []

-- "address bits 1:0 zero"
abbrev pub address_bits : List (ℕ × ℕ)
address_bits =
    (50, of_packet (short_message 2 0 1)) ∷ (50, of_packet (short_message 2 0 2)) ∷ (50, of_packet (short_message 2 0 3)) ∷ (0, of_packet (short_message 2 0 4))
    ∷ (50, of_packet (long_message 2 0 1 1)) ∷ (50, of_packet (long_message 2 0 1 2)) ∷ (0, of_packet (long_message 2 0 1 4)) ∷ []

-- "a wire packet with a device number other than 0", bits 7:3 of the requester ID; any bus and function, and any requester of a message
abbrev pub device_numbers : List (ℕ × ℕ)
device_numbers =
    (0, of_packet (wire_packet 2 7 0x20)) ∷ (50, of_packet (wire_packet 2 8 0x20)) ∷ (50, of_packet (wire_packet 2 0xf8 0x20)) ∷ (50, of_packet (wire_packet 2 0x80 0x24))
    ∷ (0, of_packet (wire_packet 0xff 7 0x24)) ∷ (0, of_packet (short_message 2 8 0)) ∷ (0, of_packet (long_message 0xff 0xff 1 0)) ∷ []

-- "then 6": the bytes that this call sends; a wire that another port keeps active needs no room
abbrev of_room : List ℕ → (room : ℕ) → ℕ
of_room bytes room = refusal (fresh 0x0107) (pass 0 bytes (replicate room 0))

abbrev pub rooms : List (ℕ × ℕ)
rooms =
    (6, of_room (wire_packet 2 0 0x20) 15) ∷ (0, of_room (wire_packet 2 0 0x20) 16) ∷ (0, of_room (wire_packet 2 0 0x24) 0)
    ∷ (6, of_room (short_message 2 0 0) 15) ∷ (0, of_room (short_message 2 0 0) 16) ∷ (6, of_room (long_message 2 0 1 0) 19) ∷ (0, of_room (long_message 2 0 1 0) 20)
    ∷ (50, of_room (wire_packet 2 8 0x20) 0) ∷ (0, refusal (with_level (fresh 0x0107) 4 1 true) (pass 0 (wire_packet 2 0 0x20) []))
    ∷ (6, refusal (with_level (fresh 0x0107) 4 2 true) (pass 0 (wire_packet 2 0 0x20) [])) ∷ []

abbrev pub ports : List (ℕ × ℕ)
ports = upstream_pins ++ port_numbers ++ layouts ++ address_bits ++ device_numbers ++ rooms
