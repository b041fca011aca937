-- What `musgarento_packet` tells of the first of some packets. Assumes nothing.
use Rattle.std.specs.Prelude.{cond, List, ℕ, ◌+◌, ◌*◌, ◌%◌, ◌^◌, eqb, take, Option, Some, None}
use Rattle.words.specs.Bits.{of_bool}
use Rattle.tlp.specs.declared.decode.Message as Message
use Rattle.tlp.specs.declared.decode.Level.{Level}
use Rattle.tlp.specs.declared.decode.Packet.{Packet}
use Rattle.tlp.specs.Decoded.{decoded, first_length}
use Rattle.capi_query.specs.declared.packets.Fields.{Fields}

-- the number returned, and the numbers set
abbrev pub fields : (refusal count kind requester address value pin level : ℕ) → Fields
fields refusal count kind requester address value pin level =
    record { refusal = refusal; count = count; kind = kind; requester = requester; address = address; value = value; pin = pin; level = level }

-- no packet of document 01
abbrev pub no_packet : Fields
no_packet = fields 60 0 0 0 0 0 0 0

-- a message, kind 1: its address of 64 bits, whose bits 1:0 are 0 ("Registers": stored as 0), and its data
unfoldable pub message_fields : (count : ℕ) → Message.Message → Fields
message_fields count m =
    cond (eqb (m.address % 4) 0) (fields 0 count 1 m.requester (m.upper * 2 ^ 32 + m.address) m.value 0 0) no_packet

-- a wire packet, kind 2: pin, and level 1 where it asserts
unfoldable pub wire_fields : (count : ℕ) → Level → Fields
wire_fields count w = fields 0 count 2 w.requester 0 0 w.pin (of_bool w.active)

unfoldable pub fields_of : (count : ℕ) → Option Packet → Fields
fields_of count (Some (Packet.Message m)) = message_fields count m
fields_of count (Some (Packet.Wire w)) = wire_fields count w
fields_of count None = no_packet

-- the first of packets that stand one after another ("Packets")
unfoldable pub first_fields : List ℕ → Fields
first_fields l = fields_of (first_length l) (decoded (take (first_length l) l))
