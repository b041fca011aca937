-- The packet that bytes are. Its fields are read off, and it is one of document 01's if they make these bytes again. Assumes nothing.
use Rattle.std.specs.Prelude.{true, false, cond, List, ℕ, ◌-◌, min, ltb, eqb, length, Option, Some, None}
use Rattle.words.specs.Lists.{same}
use Rattle.words.specs.Bytes.{byte, word32, high16, high32}
use Rattle.model.specs.Packets.{message, wire_message}
use Rattle.tlp.specs.declared.decode.Message as Fields
use Rattle.tlp.specs.declared.decode.Level.{Level}
use Rattle.tlp.specs.declared.decode.Packet.{Packet}
use Rattle.tlp.specs.declared.decode.Packet.TheVariants.{Message, Wire}

-- a memory write with these fields
unfoldable pub as_message : List ℕ → Fields.Message → Option Packet
as_message l m = cond (same l (message m.requester m.upper m.address m.value)) (Some (Message m)) None

-- Assert_INTx or Deassert_INTx with this pin and level
unfoldable pub as_wire : List ℕ → Level → Option Packet
as_wire l w = cond (same l (wire_message w.requester w.pin w.active)) (Some (Wire w)) None

-- the code is 1Fh + pin, or 23h + pin
unfoldable pub decoded_wire : List ℕ → Option Packet
decoded_wire l =
    cond (ltb (byte l 7) 0x20) None
    (cond (ltb 0x27 (byte l 7)) None
    (cond (ltb (byte l 7) 0x24)
    (as_wire l (record { requester = high16 l 4; pin = byte l 7 - 0x1f; active = true }))
    (as_wire l (record { requester = high16 l 4; pin = byte l 7 - 0x23; active = false }))))

-- the address is one word in a packet of 16 bytes, and two in one of 20
unfoldable pub decoded : List ℕ → Option Packet
decoded l =
    cond (ltb (length l) 16) None
    (cond (eqb (byte l 0) 0x34) (decoded_wire l)
    (cond (ltb (length l) 20)
    (as_message l (record { requester = high16 l 4; upper = 0; address = high32 l 8; value = word32 l 12 }))
    (as_message l (record { requester = high16 l 4; upper = high32 l 8; address = high32 l 12; value = word32 l 16 }))))

-- the length of the first of some packets, by its first byte, and at most all
unfoldable pub first_length : List ℕ → ℕ
first_length l = min (cond (eqb (byte l 0) 0x60) 20 16) (length l)
