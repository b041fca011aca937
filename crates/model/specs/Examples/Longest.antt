-- A card, and a call of it that sends as many bytes as any call can. Assumes nothing.
use Rattle.std.specs.Prelude.{true, List, ◌++◌, ℕ, set, replicate}
use Rattle.words.specs.Lists.{join, count}
use Rattle.words.specs.Bytes.{bytes_of}
use Rattle.model.specs.World.{World, function_of, endpoint_of}
use Rattle.model.specs.Calls.{Call, config_write}
use Rattle.model.specs.Play.{fresh}
use Rattle.model.specs.Cases.{msix_card, sizes_of}

-- MSI-X with 2,048 vectors, its table in BAR 0 and its pending array in BAR 1; pin 1; Command bits 1 and 2 set
unfoldable pub longest_config : List ℕ
longest_config = set (msix_card 0 2048 0 1) 0x04 0x06

-- address FEE01000h, upper address 1, data 31h, mask bit 0
unfoldable pub longest_entry : List ℕ
longest_entry = bytes_of 4 0xfee01000 ++ bytes_of 4 1 ++ bytes_of 4 0x31 ++ bytes_of 4 0

-- n such entries
unfoldable pub longest_table : ℕ → List ℕ
longest_table n = join (λ v. longest_entry) (count 0 n)

-- E = 2,048 and requester 0100h; the pin is in force, the line high and the wire active, and every vector waits
unfoldable pub longest_card : World
longest_card = record {
  endpoint = endpoint_of (function_of longest_config (sizes_of 0x8000 0x100) 2048 0x100 true 0) (longest_table 2048) (replicate 256 0xff);
  wire = true;
}

-- MSI-X control bit 15 is set: one Deassert, and 2,048 messages of 20 bytes
unfoldable pub longest_call : Call
longest_call = config_write 0x42 2 0x8000 (fresh 40976)
