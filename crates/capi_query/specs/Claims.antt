-- What the theorems on packets speak of. Assumes nothing.
use Rattle.std.specs.Prelude.{◌≡◌, Bool, cond, List, [], ◌∷◌, ◌++◌, ℕ, ◌+◌, ◌*◌, ◌/◌, ◌%◌, ◌^◌, ◌≤◌, ◌<◌, eqb, take, drop}
use Rattle.words.specs.Bits.{of_bool}
use Rattle.model.specs.Packets.{message, message_size, wire_message}
use Rattle.capi_query.specs.declared.packets.Fields.{Fields}
use Rattle.capi_query.specs.Fields.{fields, first_fields}

-- a packet of document 01 stands first in the bytes: a message with fields of 16 and 32 bits, address bits 1:0 being 0, or the wire packet of a pin 1 to 4
pub data Stands (l : List ℕ) : Fields → Type 0 where
  message_first : (requester upper address value : ℕ) → requester < 2 ^ 16 → upper < 2 ^ 32 → address < 2 ^ 32 → value < 2 ^ 32 → address % 4 ≡ 0
      → take (message_size upper) l ≡ message requester upper address value
      → Stands l (fields 0 (message_size upper) 1 requester (upper * 2 ^ 32 + address) value 0 0)
  wire_first : (requester pin : ℕ) (active : Bool) → requester < 2 ^ 16 → 1 ≤ pin → pin ≤ 4 → take 16 l ≡ wire_message requester pin active
      → Stands l (fields 0 16 2 requester 0 0 pin (of_bool active))

-- the bytes of the packet with the fields told: of a message, or of a wire packet
unfoldable pub packet_of : Fields → List ℕ
packet_of f =
    cond (eqb f.kind 1) (message f.requester (f.address / 2 ^ 32) (f.address % 2 ^ 32) f.value)
    (wire_message f.requester f.pin (eqb f.level 1))

-- and of several, one after another
unfoldable pub packets_of : List Fields → List ℕ
packets_of [] = []
packets_of (f ∷ fs) = packet_of f ++ packets_of fs

-- bytes read packet by packet: each is told with 0, the next one stands `count` bytes further, and in the end no byte is left
pub data Walked : List ℕ → List Fields → Type 0 where
  done : Walked [] []
  next : {l : List ℕ} {fs : List Fields} → (first_fields l).refusal ≡ 0 → Walked (drop (first_fields l).count l) fs → Walked l (first_fields l ∷ fs)
