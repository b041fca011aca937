-- Document 01, "Saved images": images byte for byte, saved and restored; in the first no two fields are alike. Assumes nothing.
use Rattle.std.specs.Prelude.{true, false, List, [], ◌∷◌, ◌++◌, ℕ, set, replicate, take}
use Rattle.words.specs.Lists.{count}
use Rattle.model.specs.declared.Answer.TheVariants.{Refused, Done, Held}
use Rattle.model.specs.Calls.{call, restore, bar_write}
use Rattle.model.specs.Play.{Step, lends, does, fresh}
use Rattle.model.specs.Cases.{put, sizes_of, start_case, writes, raises, drives, control, command, entry, saves, plain_case, msix_card, resets, wire_packet}
use Rattle.model.specs.Examples.Parts.{starts_as}

-- ---- no two fields are alike: line and wire high, E = 0702h, requester 1238h, MSI waiting bits 08040201h, six sizes, and byte i of the page is i

-- pin 3, and MSI with masks at 40h, the end of the list
abbrev pub page : List ℕ
page = put 0x40 (0x05 ∷ 0x00 ∷ 0x0a ∷ 0x01 ∷ []) (set (set (set (set (count 0 256) 0x06 0x16) 0x0e 0x80) 0x34 0x40) 0x3d 3)

abbrev pub sizes : List ℕ
sizes = 0x14131211 ∷ 0x24232221 ∷ 0x34333231 ∷ 0x44434241 ∷ 0x54535251 ∷ 0x64636261 ∷ []

abbrev pub fields : List ℕ
fields =
    -- mark, version, flags, E, requester, waiting bits
    0x49 ∷ 0x52 ∷ 0x51 ∷ 0x01 ∷ 0x00 ∷ 0x03 ∷ 0x02 ∷ 0x07 ∷ 0x38 ∷ 0x12 ∷ 0x01 ∷ 0x02 ∷ 0x04 ∷ 0x08
    -- sizes
    ∷ 0x11 ∷ 0x12 ∷ 0x13 ∷ 0x14 ∷ 0x21 ∷ 0x22 ∷ 0x23 ∷ 0x24 ∷ 0x31 ∷ 0x32 ∷ 0x33 ∷ 0x34 ∷ 0x41 ∷ 0x42 ∷ 0x43 ∷ 0x44 ∷ 0x51 ∷ 0x52 ∷ 0x53 ∷ 0x54
    ∷ 0x61 ∷ 0x62 ∷ 0x63 ∷ 0x64
    -- configuration: Command 0102h, Status bit 3 stored as 0, Interrupt Line 9Dh; MSI: Enable 5, address, data, masks, Pending stored as 0
    ∷ put 0x04 (0x02 ∷ 0x01 ∷ 0x16 ∷ []) (set
    (put 0x40
    (0x05 ∷ 0x00 ∷ 0x5a ∷ 0x01 ∷ 0x78 ∷ 0x56 ∷ 0x34 ∷ 0x12 ∷ 0xa0 ∷ 0x49 ∷ 0x4a ∷ 0x4b ∷ 0xff ∷ 0xee ∷ 0xdd ∷ 0xcc ∷ 0x00 ∷ 0x00 ∷ 0x00 ∷ 0x00 ∷ []) page)
    0x3c 0x9d)

abbrev pub no_two_alike : List Step
no_two_alike =
    starts_as 0x1238 page sizes 0x0702 0
    ++ (writes 0x42 2 0x0051 [] ∷ writes 0x44 4 0x12345678 [] ∷ writes 0x48 2 0x49a0 [] ∷ writes 0x4c 4 0xccddeeff [] ∷ writes 0x3c 1 0x9d []
    ∷ raises 0 0 Held [] ∷ raises 9 0 Held [] ∷ raises 18 0 Held [] ∷ raises 27 0 Held [] ∷ writes 0x42 2 0x0050 [] ∷ command 0x0002
    ∷ drives true (0x34 ∷ 0 ∷ 0 ∷ 0 ∷ 0x12 ∷ 0x38 ∷ 0 ∷ 0x22 ∷ replicate 8 0)
    ∷ saves 294 fields ∷ resets (0x34 ∷ 0 ∷ 0 ∷ 0 ∷ 0x12 ∷ 0x38 ∷ 0 ∷ 0x26 ∷ replicate 8 0)
    ∷ does (restore fields) [] Done ∷ saves 300 fields ∷ drives false (0x34 ∷ 0 ∷ 0 ∷ 0 ∷ 0x12 ∷ 0x38 ∷ 0 ∷ 0x26 ∷ replicate 8 0) ∷ [])

-- ---- flags: bit 0 is the line alone, where there is no pin

abbrev pub line_only : List Step
line_only = plain_case 0 (drives true [] ∷ saves 300 (0x49 ∷ 0x52 ∷ 0x51 ∷ 1 ∷ 0 ∷ 1 ∷ 1 ∷ 0 ∷ 0 ∷ 1 ∷ replicate 284 0) ∷ [])

-- ---- table, then pending array: two vectors, of which vector 1 waits

abbrev pub table_image : List ℕ
table_image =
    0x49 ∷ 0x52 ∷ 0x51 ∷ 1 ∷ 0 ∷ 0 ∷ 2 ∷ 0 ∷ 0 ∷ 1 ∷ replicate 4 0 ++ (0x00 ∷ 0x20 ∷ replicate 22 0)
    ++ put 0x04 (0x02 ∷ []) (put 0x43 (0x80 ∷ []) (msix_card 0 2 0 0x1000))
    ++ replicate 12 0 ++ (1 ∷ 0 ∷ 0 ∷ 0 ∷ [])
    ++ (0x00 ∷ 0x10 ∷ 0xe0 ∷ 0xfe ∷ 0x01 ∷ 0x00 ∷ 0x00 ∷ 0x00 ∷ 0xef ∷ 0xcd ∷ 0xab ∷ 0x89 ∷ 0x00 ∷ 0x00 ∷ 0x00 ∷ 0x00 ∷ [])
    ++ (2 ∷ replicate 7 0)

abbrev pub table_and_pending : List Step
table_and_pending =
    start_case (msix_card 0 2 0 0x1000) (sizes_of 0x2000 0) 2 2
    (command 0x0002 ∷ entry 1 0x89abcdef ++ (does (call (bar_write 0 0x1c 4 0 (fresh 64))) [] Done ∷ control 0x8000 [] ∷ raises 1 0 Held []
    ∷ saves 334 table_image
    -- restored over other buffers of the same lengths: bus mastering sends it
    ∷ lends 2 ∷ does (restore table_image) [] Done ∷ saves 334 table_image
    ∷ writes 0x04 2 0x0004 (0x60 ∷ 0 ∷ 0 ∷ 1 ∷ 1 ∷ 0 ∷ 0 ∷ 0x0f ∷ 0 ∷ 0 ∷ 0 ∷ 1 ∷ 0xfe ∷ 0xe0 ∷ 0x10 ∷ 0 ∷ 0xef ∷ 0xcd ∷ 0xab ∷ 0x89 ∷ []) ∷ []))

-- ---- a refused restore hands back the card that it was given

abbrev pub kept_card : List Step
kept_card =
    plain_case 1
    (drives true (wire_packet 0x20) ∷ does (restore (take 293 fields)) [] (Refused 20) ∷ does (restore (set fields 3 2)) [] (Refused 21)
    ∷ does (restore (set fields 5 4)) [] (Refused 22) ∷ does (restore table_image) [] (Refused 17) ∷ drives true [] ∷ drives false (wire_packet 0x24) ∷ [])

abbrev pub images : List (List Step)
images = no_two_alike ∷ line_only ∷ table_and_pending ∷ kept_card ∷ []
