-- The layout of an image. Assumes nothing.
use Rattle.std.specs.Prelude.{List, [], ◌∷◌, ◌++◌, ℕ, ◌+◌, ◌*◌}
use Rattle.words.specs.Bits.{of_bool}
use Rattle.words.specs.Bytes.{bytes_of}
use Rattle.model.specs.declared.Function.{Function}
use Rattle.model.specs.declared.Card.{Card}
use Rattle.image.specs.declared.format.Image.{Image}

abbrev pub layout : (table pending : ℕ) → Image
layout table pending = record { table = table; pending = pending }

-- the length of an image with a table and a pending array of these lengths
abbrev pub image_size : (table pending : ℕ) → ℕ
image_size table pending = 294 + table + pending

-- the first nine of a card's bytes: flags, event count, requester ID, MSI waiting bits
unfoldable pub number_bytes : Card → List ℕ
number_bytes card =
    let f : Function = card.function in
    ((of_bool f.line + 2 * of_bool card.wire) ∷ []) ++ bytes_of 2 f.events ++ bytes_of 2 f.requester ++ bytes_of 4 f.waiting
