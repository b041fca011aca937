-- Document 01, "Registers": every writable and every fixed bit, read and written by each width. Assumes nothing.
use Rattle.std.specs.Prelude.{true, false, List, [], ◌∷◌, ◌++◌, ℕ, ◌+◌, set, replicate}
use Rattle.model.specs.declared.Answer.TheVariants.{Held}
use Rattle.model.specs.Play.{Step}
use Rattle.model.specs.Cases.{put, msix, list_from, header, sizes_of, start_case, writes, reads_config, saves, raises, drives, command, control, msix_case, wire_packet}
use Rattle.model.specs.Examples.Parts.{ones, ones_unlisted, image_bytes, writes_words, reads_words, reads, puts, form_case}

-- ---- the n words from offset o on: as they are started, with all ones written, and with all zeros

abbrev pub every_bit : (o n : ℕ) (given sizes : List ℕ) (vectors : ℕ) (at_start withOnes buffers : List ℕ) → List Step
every_bit o n given sizes vectors at_start withOnes buffers =
    start_case given sizes 1 vectors
    (saves 400 (image_bytes 0 1 0 sizes at_start buffers) ∷ writes_words o n 0xffffffff
    ++ (saves 400 (image_bytes 0 1 0 sizes withOnes buffers) ∷ reads_words o n withOnes)
    ++ writes_words o n 0
    ++ (saves 400 (image_bytes 0 1 0 sizes at_start buffers) ∷ []))

-- a header as it is started: Command, the low byte of Status and Interrupt Line
abbrev pub started_header : (status : ℕ) → List ℕ → List ℕ
started_header status c = set (put 0x04 (0xf9 ∷ 0xfb ∷ status ∷ []) c) 0x3c 0x00

-- no list: Command bits 1, 2 and 10 and Interrupt Line are writable, Status bit 3 is stored as 0, all else is as given
abbrev pub header_bits : List Step
header_bits = every_bit 0 16 ones_unlisted (sizes_of 0 0) 0 (started_header 0xe7 ones_unlisted) (set ones_unlisted 0x06 0xe7) []

-- and nothing behind the header
abbrev pub no_bits : List Step
no_bits =
    start_case ones_unlisted (sizes_of 0 0) 1 0
    (writes_words 0x40 48 0 ++ (saves 294 (image_bytes 0 1 0 (sizes_of 0 0) (started_header 0xe7 ones_unlisted) []) ∷ []))

-- with a capability at 50h, of 32 bytes there: as given, as started, and with all ones written
abbrev pub capability_bits : (given at_start withOnes : List ℕ) → List Step
capability_bits given at_start withOnes =
    let page : List ℕ → List ℕ = λ l. put 0x50 l (ones 0x53) in
    every_bit 0x50 8 (page given) (sizes_of 0 0) 0 (started_header 0xf7 (page at_start)) (started_header 0xf7 (page withOnes)) []

-- without control bit 9. 32-bit: address at 04h, data at 08h, two bytes; bit 10 and the 16 bits behind the data are as given
abbrev pub bits32 : List Step
bits32 =
    capability_bits (0x05 ∷ 0x03 ∷ 0x7b ∷ 0xfc ∷ [])
    (0x05 ∷ 0x03 ∷ 0x0a ∷ 0xfc ∷ 0x00 ∷ 0x00 ∷ 0x00 ∷ 0x00 ∷ 0x00 ∷ 0x00 ∷ 0xff ∷ 0xff ∷ [])
    (0x05 ∷ 0x03 ∷ 0x7b ∷ 0xfc ∷ 0xfc ∷ 0xff ∷ 0xff ∷ 0xff ∷ 0xff ∷ 0xff ∷ 0xff ∷ 0xff ∷ [])

-- 64-bit: upper address at 08h, data at 0Ch
abbrev pub bits64 : List Step
bits64 =
    capability_bits (0x05 ∷ 0x03 ∷ 0xfb ∷ 0xfc ∷ [])
    (0x05 ∷ 0x03 ∷ 0x8a ∷ 0xfc ∷ replicate 8 0x00 ++ (0x00 ∷ 0x00 ∷ 0xff ∷ 0xff ∷ []))
    (0x05 ∷ 0x03 ∷ 0xfb ∷ 0xfc ∷ 0xfc ∷ 0xff ∷ 0xff ∷ 0xff ∷ replicate 8 0xff)

-- 32-bit with masks, Capable 5: mask at 0Ch, Pending at 10h
abbrev pub bits32_masks : List Step
bits32_masks =
    capability_bits (0x05 ∷ 0x03 ∷ 0x7b ∷ 0xfd ∷ [])
    (0x05 ∷ 0x03 ∷ 0x0a ∷ 0xfd ∷ 0x00 ∷ 0x00 ∷ 0x00 ∷ 0x00 ∷ 0x00 ∷ 0x00 ∷ 0xff ∷ 0xff ∷ replicate 8 0x00)
    (0x05 ∷ 0x03 ∷ 0x7b ∷ 0xfd ∷ 0xfc ∷ 0xff ∷ 0xff ∷ 0xff ∷ 0xff ∷ 0xff ∷ 0xff ∷ 0xff ∷ replicate 4 0xff ++ replicate 4 0x00)

-- 64-bit with masks, Capable 2: mask at 10h, Pending at 14h; masks at or above 2^Capable are 0
abbrev pub bits64_masks : List Step
bits64_masks =
    capability_bits (0x05 ∷ 0x03 ∷ 0xf5 ∷ 0xfd ∷ [])
    (0x05 ∷ 0x03 ∷ 0x84 ∷ 0xfd ∷ replicate 8 0x00 ++ (0x00 ∷ 0x00 ∷ 0xff ∷ 0xff ∷ replicate 8 0x00))
    (0x05 ∷ 0x03 ∷ 0xf5 ∷ 0xfd ∷ 0xfc ∷ 0xff ∷ 0xff ∷ 0xff ∷ replicate 8 0xff ++ (0x0f ∷ replicate 7 0x00))

-- MSI-X for one vector, near the end of BAR 5: control bits 14 and 15
abbrev pub bits_msix : List Step
bits_msix =
    let page : ℕ → List ℕ = λ control. msix 0x50 0x03 control 0xffffff05 0xffffffcd (ones 0x53) in
    let sizes : List ℕ = 0 ∷ 0 ∷ 0 ∷ 0 ∷ 0 ∷ 0xffffffff ∷ [] in
    every_bit 0x50 8 (page 0xf800) sizes 1 (started_header 0xf7 (page 0x3800)) (started_header 0xf7 (page 0xf800)) (replicate 12 0 ++ (1 ∷ replicate 11 0))

-- ---- mask bits below 2^Capable

abbrev pub mask_bits : (control value : ℕ) → List Step
mask_bits control value = form_case control 1 (writes 0x4c 4 0xffffffff [] ∷ reads_config 0x4c 4 value ∷ [])

-- ---- table entries: address, upper address, data, control; four and eight bytes

-- every bit of entry 0 of two, by eight bytes and by four; writes to the pending array change nothing
abbrev pub entry_bits : List Step
entry_bits =
    msix_case 2
    (command 0x0002
    ∷ reads 0 0x00 8 0 ∷ reads 0 0x08 8 0x0000000100000000
    ∷ puts 0 0x00 8 0xffffffffffffffff ∷ puts 0 0x08 8 0xffffffffffffffff
    ∷ reads 0 0x00 8 0xfffffffffffffffc ∷ reads 0 0x08 8 0x00000001ffffffff ∷ reads 0 0x10 8 0 ∷ reads 0 0x18 8 0x0000000100000000
    ∷ puts 0 0x00 4 0 ∷ puts 0 0x04 4 0 ∷ puts 0 0x08 4 0 ∷ puts 0 0x0c 4 0xfffffffe
    ∷ reads 0 0x00 8 0 ∷ reads 0 0x08 8 0
    ∷ puts 0 0x10 4 0x12345678 ∷ puts 0 0x14 4 0x9abcdef0 ∷ puts 0 0x18 4 0x13579bdf
    ∷ reads 0 0x10 4 0x12345678 ∷ reads 0 0x14 4 0x9abcdef0 ∷ reads 0 0x18 4 0x13579bdf ∷ reads 0 0x1c 4 1
    ∷ puts 0 0x1000 8 0xffffffffffffffff ∷ puts 0 0x1004 4 0xffffffff ∷ reads 0 0x1000 8 0 ∷ reads 0 0x1004 4 0
    ∷ saves 400
    (image_bytes 0 2 0 (sizes_of 0x2000 0) (set (msix 0x40 0 1 0 0x1000 (list_from 0x40)) 0x04 0x02)
    (replicate 16 0
    ++ (0x78 ∷ 0x56 ∷ 0x34 ∷ 0x12 ∷ 0xf0 ∷ 0xde ∷ 0xbc ∷ 0x9a ∷ 0xdf ∷ 0x9b ∷ 0x57 ∷ 0x13 ∷ 1 ∷ 0 ∷ 0 ∷ 0 ∷ replicate 8 0)))
    ∷ [])

-- ---- widths: value bytes beyond the width are dropped, and are 0 in what is read

abbrev pub widths : List Step
widths =
    start_case (put 0x3c (0x00 ∷ 0x03 ∷ 0x44 ∷ 0x55 ∷ []) (header 0)) (sizes_of 0 0) 1 0
    (writes 0x3c 1 0x1234 [] ∷ reads_config 0x3c 4 0x55440334 ∷ reads_config 0x3c 2 0x0334 ∷ reads_config 0x3e 2 0x5544 ∷ reads_config 0x3d 1 0x03 ∷ reads_config 0x3f 1 0x55
    ∷ writes 0x3c 2 0xaaaaaa56 [] ∷ reads_config 0x3c 4 0x55440356 ∷ writes 0x3d 1 0xff [] ∷ writes 0x3e 2 0xffff [] ∷ reads_config 0x3c 4 0x55440356
    ∷ writes 0x04 1 0xff06 [] ∷ reads_config 0x04 4 0x00000006 ∷ writes 0x05 1 0xff04 [] ∷ reads_config 0x04 4 0x00000406
    ∷ writes 0x04 2 0xffff0000 [] ∷ reads_config 0x04 4 0 ∷ [])

-- ---- shown and not stored: Status bit 3 and the Pending register

-- the line, whatever Interrupt Disable says
abbrev pub status_bit : List Step
status_bit =
    start_case (set (header 1) 0x06 0xef) (sizes_of 0 0) 1 0
    (reads_config 0x04 4 0x00e70000 ∷ drives true (wire_packet 0x20) ∷ reads_config 0x04 4 0x00ef0000 ∷ reads_config 0x06 2 0x00ef ∷ reads_config 0x06 1 0xef
    ∷ writes 0x04 4 0x00000400 (wire_packet 0x24) ∷ reads_config 0x04 4 0x00ef0400
    ∷ saves 294 (image_bytes 1 1 0 (sizes_of 0 0) (put 0x05 (0x04 ∷ 0xe7 ∷ []) (header 1)) [])
    ∷ drives false [] ∷ reads_config 0x04 4 0x00e70400 ∷ [])

-- the 32 waiting bits, one in each byte, in a form with masks: by each width, with what is written there dropped
abbrev pub pending_register : (control pending : ℕ) → List Step
pending_register ctl pending =
    form_case ctl 32
    (control 0x51 [] ∷ raises 0 0 Held [] ∷ raises 9 0 Held [] ∷ raises 18 0 Held [] ∷ raises 27 0 Held []
    ∷ reads_config pending 4 0x08040201 ∷ reads_config (pending + 2) 2 0x0804 ∷ reads_config (pending + 1) 1 0x02
    ∷ writes pending 4 0xffffffff [] ∷ reads_config pending 4 0x08040201 ∷ reads_config (pending + 4) 4 0 ∷ [])

abbrev pub registers : List (List Step)
registers =
    header_bits ∷ no_bits ∷ bits32 ∷ bits64 ∷ bits32_masks ∷ bits64_masks ∷ bits_msix
    ∷ mask_bits 0x0100 0x00000001 ∷ mask_bits 0x0102 0x00000003 ∷ mask_bits 0x0104 0x0000000f ∷ mask_bits 0x0106 0x000000ff
    ∷ mask_bits 0x0108 0x0000ffff ∷ mask_bits 0x010a 0xffffffff
    ∷ entry_bits ∷ widths ∷ status_bit ∷ pending_register 0x010a 0x50 ∷ pending_register 0x018a 0x54 ∷ []
