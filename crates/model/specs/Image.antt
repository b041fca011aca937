-- Document 01, "Saved images": the bytes, and the checks of a restore. Assumes nothing.
use Rattle.std.specs.Prelude.{Bool, not, ◌&&◌, ◌||◌, List, [], ◌∷◌, ◌++◌, ℕ, ◌+◌, ◌-◌, ◌*◌, ltb, eqb, length, take, drop}
use Rattle.words.specs.Lists.{join, same, first_of}
use Rattle.words.specs.Bits.{bit, of_bool}
use Rattle.words.specs.Bytes.{byte, part, word16, word32, words32, bytes_of}
use Rattle.model.specs.declared.Card.{Card}
use Rattle.model.specs.declared.Function.{Function}
use Rattle.model.specs.Shape.{shape_of, table_bytes}
use Rattle.model.specs.World.{World, function_of, endpoint_of}
use Rattle.model.specs.Sound.{sound}

-- "IRQ"
unfoldable pub mark : List ℕ
mark = 0x49 ∷ 0x52 ∷ 0x51 ∷ []

-- bit 0 line, bit 1 wire
unfoldable pub flags : World → ℕ
flags w = of_bool w.endpoint.function.line + 2 * of_bool w.wire

-- from the flags to the last configuration byte: 289 bytes
unfoldable pub card_bytes : World → List ℕ
card_bytes w =
    let f : Function = w.endpoint.function in
    (flags w ∷ [])
    ++ bytes_of 2 f.events
    ++ bytes_of 2 f.requester
    ++ bytes_of 4 f.waiting
    ++ join (bytes_of 4) f.sizes
    ++ f.config

unfoldable pub image_of : World → List ℕ
image_of w = mark ++ bytes_of 2 1 ++ card_bytes w ++ w.endpoint.table ++ w.endpoint.pending

-- ---- what an image of at least 294 bytes holds

-- the function in bytes that start at offset `first` of an image: 0 for a whole image, 5 for a card's bytes
unfoldable pub function_from : (first : ℕ) → List ℕ → Function
function_from first l =
    function_of (part (38 - first) 256 l) (words32 6 (drop (14 - first) l)) (word16 l (6 - first)) (word16 l (8 - first)) (bit (byte l (5 - first)) 0)
    (word32 l (10 - first))

abbrev pub function_in : List ℕ → Function
function_in l = function_from 0 l

-- the card in its 289 bytes, from the flags to the last configuration byte; flag bits above bit 1 are ignored
unfoldable pub card_in : List ℕ → Card
card_in l = record { function = function_from 5 l; wire = bit (byte l 0) 1 }

unfoldable pub world_in : List ℕ → World
world_in l =
    let f : Function = function_in l in
    let n : ℕ = table_bytes (shape_of f.config) in
    record { endpoint = endpoint_of f (take n (drop 294 l)) (drop n (drop 294 l)); wire = bit (byte l 5) 1 }

-- some sound card saves it: the card that it holds
unfoldable pub is_saved : List ℕ → Bool
is_saved l = sound (world_in l) && same (image_of (world_in l)) l

-- the refusal of a restore over buffers of these lengths, 0 if there is none
unfoldable pub restore_refusal : List ℕ → (table_length pending_length : ℕ) → ℕ
restore_refusal l table_length pending_length =
    let w : World = world_in l in
    first_of
    ((20, ltb (length l) 294 || not (same (take 3 l) mark))
    ∷ (21, not (eqb (word16 l 3) 1))
    ∷ (22, not (is_saved l))
    ∷ (17, not (eqb table_length (length w.endpoint.table)) || not (eqb pending_length (length w.endpoint.pending)))
    ∷ [])
