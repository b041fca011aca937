-- Numbers that no packet and no register shows: of answers, of a card's bytes, of vectors, of images. Assumes nothing.
use Rattle.std.specs.Prelude.{List, [], ◌∷◌, ◌++◌, ℕ, ◌*◌, length, replicate, drop}
use Rattle.words.specs.Lists.{same}
use Rattle.words.specs.Bits.{of_bool}
use Rattle.model.specs.declared.Mode.{Mode}
use Rattle.model.specs.declared.Mode.TheVariants.{Pin, Msi, Msix}
use Rattle.model.specs.declared.Answer.{Answer}
use Rattle.model.specs.declared.Answer.TheVariants.{Refused, Done, Value, Sent, Held, Merged, Lost}
use Rattle.model.specs.Answers.{refusal_of, is_accepted, value_of, event_code}
use Rattle.model.specs.World.{World, world_of}
use Rattle.model.specs.Shape.{shape_of}
use Rattle.model.specs.Start.{given}
use Rattle.model.specs.Image.{image_of, card_bytes, card_in}
use Rattle.model.specs.Calls.{start_of, started_world}
use Rattle.model.specs.History.{is_vector}
use Rattle.model.specs.Play.{unplayed}
use Rattle.model.specs.Cases.{header, sizes_of, msix_card}
use Rattle.model.specs.Examples.Images.{fields}

-- ---- answers: the refusal's number, whether it is accepted, the value read, and sent, held, merged, lost as 1, 2, 3, 4

abbrev pub answer : Answer → (number is_accepted value code : ℕ) → List (ℕ × ℕ)
answer a number accepted value code = (number, refusal_of a) ∷ (accepted, of_bool (is_accepted a)) ∷ (value, value_of a) ∷ (code, event_code a) ∷ []

abbrev pub answers : List (ℕ × ℕ)
answers =
    answer (Refused 22) 22 0 0 0 ++ answer Done 0 1 0 0 ++ answer (Value 7) 0 1 7 0 ++ answer Sent 0 1 0 1 ++ answer Held 0 1 0 2
    ++ answer Merged 0 1 0 3 ++ answer Lost 0 1 0 4

-- ---- a refused start hands out a card whose fields are all 0: E, requester, waiting bits, six sizes and 256 bytes

abbrev pub zero_fields : List (ℕ × ℕ)
zero_fields =
    let card : World = (start_of unplayed.world.endpoint (given (header 5) (sizes_of 8 8) 1 0x100 0 0)).world in
    (289, length (card_bytes card)) ∷ (1, of_bool (same (card_bytes card) (replicate 289 0))) ∷ []

-- ---- the 289 bytes of a card, from the flags on, read and written back: of the image in which no two fields are alike, with each of its flags

abbrev pub read_back : (flags : ℕ) → ℕ
read_back flags =
    let bytes : List ℕ = flags ∷ drop 6 fields in
    of_bool (same (card_bytes (world_of (card_in bytes) [] [])) bytes)

abbrev pub card_fields : List (ℕ × ℕ)
card_fields = (289, length (drop 5 fields)) ∷ (1, read_back 0) ∷ (1, read_back 1) ∷ (1, read_back 2) ∷ (1, read_back 3) ∷ (0, read_back 4) ∷ []

-- ---- a vector is an MSI-X one below N or an MSI one below 32

abbrev pub is_one : (n : ℕ) (m : Mode) (v : ℕ) → ℕ
is_one n m v = of_bool (is_vector (shape_of (msix_card 0 n 0 0x1000)) m v)

abbrev pub vector_numbers : List (ℕ × ℕ)
vector_numbers =
    (1, is_one 5 Msi 0) ∷ (1, is_one 5 Msi 31) ∷ (0, is_one 5 Msi 32) ∷ (1, is_one 5 Msix 4) ∷ (0, is_one 5 Msix 5) ∷ (1, is_one 65 Msix 64) ∷ (0, is_one 65 Msix 65)
    ∷ (0, is_one 5 Pin 0) ∷ []

-- ---- an image has 294 + 16N + 8 x (N/64 rounded up) bytes, at most 33,318

abbrev pub image_length : (n : ℕ) → ℕ
image_length n = length (image_of (started_world (given (msix_card 0 n 0 1) (sizes_of 0x8000 0x100) n 0x100 (16 * n) 0)))

abbrev pub image_lengths : List (ℕ × ℕ)
image_lengths =
    (294, length (image_of (started_world (given (header 1) (sizes_of 0 0) 1 0x100 0 0)))) ∷ (318, image_length 1) ∷ (1326, image_length 64)
    ∷ (1350, image_length 65) ∷ (33318, image_length 2048) ∷ []

abbrev pub numbers : List (ℕ × ℕ)
numbers = answers ++ zero_fields ++ card_fields ++ vector_numbers ++ image_lengths
