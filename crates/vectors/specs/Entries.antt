-- An entry of the MSI-X table by its 16 bytes. Assumes nothing.
use Rattle.std.specs.Prelude.{◌≡◌, Bool, List, ℕ, ◌+◌, ◌*◌, ◌<◌}
use Rattle.words.specs.Bytes.{byte, bit_at, word32}
use Rattle.vectors.specs.declared.message.Message.{Message}

-- e holds the 16 bytes of entry v of table t
abbrev pub IsEntry : (e t : List ℕ) → (v : ℕ) → Type 0
IsEntry e t v = (i : ℕ) → i < 16 → byte e i ≡ byte t (16 * v + i)

-- its mask bit: control bit 0, in byte 12
unfoldable pub mask_in : List ℕ → Bool
mask_in e = bit_at e 12 0

-- its message: address, upper address, data
unfoldable pub message_in : List ℕ → Message
message_in e = record { upper = word32 e 4; address = word32 e 0; value = word32 e 8 }
