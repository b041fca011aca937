-- The numbers of the three functions, each row beside what the definitions give. Assumes nothing.
use Rattle.std.specs.Prelude.{Bool, ◌&&◌, List, [], ◌∷◌, ◌++◌, ℕ, replicate, set, take}
use Rattle.words.specs.Lists.{same}
use Rattle.model.specs.Cases.{list_from, capability, msix, msix_card, msi_card, wire_packet, message32, message64}
use Rattle.model.specs.Examples.Restores.{bare, good_image, image_for}
use Rattle.capi_query.specs.declared.packets.Fields.{Fields}
use Rattle.capi_query.specs.Lengths.{Lengths, config_lengths, image_lengths}
use Rattle.capi_query.specs.Fields.{first_fields}

-- ---- rows of numbers: the refusal, N and the two lengths; and the eight numbers told of a packet

abbrev four : Lengths → List ℕ
four r = r.refusal ∷ r.vectors ∷ r.table ∷ r.pending ∷ []

abbrev eight : Fields → List ℕ
eight r = r.refusal ∷ r.count ∷ r.kind ∷ r.requester ∷ r.address ∷ r.value ∷ r.pin ∷ r.level ∷ []

abbrev of_config : (refusal vectors table pending : ℕ) → List ℕ → Bool
of_config refusal vectors table pending l = same (refusal ∷ vectors ∷ table ∷ pending ∷ []) (four (config_lengths l))

abbrev of_image : (refusal vectors table pending : ℕ) → List ℕ → Bool
of_image refusal vectors table pending l = same (refusal ∷ vectors ∷ table ∷ pending ∷ []) (four (image_lengths l))

abbrev of_message : (count requester address value : ℕ) → List ℕ → Bool
of_message count requester address value l = same (0 ∷ count ∷ 1 ∷ requester ∷ address ∷ value ∷ 0 ∷ 0 ∷ []) (eight (first_fields l))

abbrev of_wire : (pin level : ℕ) → List ℕ → Bool
of_wire pin level l = same (0 ∷ 16 ∷ 2 ∷ 0x0100 ∷ 0 ∷ 0 ∷ pin ∷ level ∷ []) (eight (first_fields l))

abbrev none : List ℕ → Bool
none l = same (60 ∷ replicate 7 0) (eight (first_fields l))

-- ---- a configuration

abbrev configs : Bool
configs =
    -- 256 bytes
    of_config 0 0 0 0 (replicate 256 0)
    && of_config 60 0 0 0 (replicate 255 0)
    && of_config 60 0 0 0 (replicate 257 0)
    && of_config 60 0 0 0 []
    -- Table Size 0, 63, 64, 2047; the control bits above it
    && of_config 0 1 16 8 (msix_card 0 1 0 0x1000)
    && of_config 0 64 1024 8 (msix_card 0 64 0 0x1000)
    && of_config 0 65 1040 16 (msix_card 0 65 0 0x1000)
    && of_config 0 2048 32768 256 (msix_card 0 2048 0 0x8000)
    && of_config 0 1 16 8 (msix 0x40 0 0xf800 0 0x1000 (list_from 0x40))
    -- MSI alone; no list; a broken one; of two capabilities the first
    && of_config 0 0 0 0 msi_card
    && of_config 0 0 0 0 (set (msix_card 0 1 0 0x1000) 0x06 0xef)
    && of_config 0 0 0 0 (msix_card 0x3c 1 0 0x1000)
    && of_config 0 2 32 8 (capability 0x50 0x11 0 2 (msix_card 0x50 2 0 0x1000))
    -- whatever else a start refuses
    && of_config 0 1 16 8 (set (msix_card 0 1 6 6) 0x0e 1)

-- ---- an image

abbrev images : Bool
images =
    -- 294 bytes, without MSI-X; one vector and two
    of_image 0 0 0 0 bare
    && of_image 0 1 16 8 good_image
    && of_image 0 2 32 8 (image_for 2)
    -- 20: under 294 bytes, or another mark
    && of_image 20 0 0 0 (take 293 bare)
    && of_image 20 0 0 0 []
    && of_image 20 0 0 0 (set bare 0 0x48)
    && of_image 20 0 0 0 (set bare 1 0x53)
    && of_image 20 0 0 0 (set bare 2 0x50)
    -- 21: another version
    && of_image 21 0 0 0 (set bare 3 2)
    && of_image 21 0 0 0 (set bare 4 1)
    -- 22: a flag above bit 1, E = 0, a byte more, the table cut off, the pending array too short
    && of_image 22 0 0 0 (set bare 5 4)
    && of_image 22 0 0 0 (set bare 6 0)
    && of_image 22 0 0 0 (bare ++ (0 ∷ []))
    && of_image 22 0 0 0 (take 294 good_image)
    && of_image 22 0 0 0 (take 317 good_image)
    -- 20 before 21 before 22
    && of_image 20 0 0 0 (set (set bare 3 2) 0 0x48)
    && of_image 21 0 0 0 (set (set bare 3 2) 5 4)

-- ---- the first of some packets

-- no two bytes of the fields are alike: requester 1234h, upper address 01020304h, address 56789ABCh, data 2211F0DEh
abbrev short : List ℕ
short = 0x40 ∷ 0 ∷ 0 ∷ 1 ∷ 0x12 ∷ 0x34 ∷ 0 ∷ 0x0f ∷ 0x56 ∷ 0x78 ∷ 0x9a ∷ 0xbc ∷ 0xde ∷ 0xf0 ∷ 0x11 ∷ 0x22 ∷ []

abbrev long : List ℕ
long = 0x60 ∷ 0 ∷ 0 ∷ 1 ∷ 0x12 ∷ 0x34 ∷ 0 ∷ 0x0f ∷ 1 ∷ 2 ∷ 3 ∷ 4 ∷ 0x56 ∷ 0x78 ∷ 0x9a ∷ 0xbc ∷ 0xde ∷ 0xf0 ∷ 0x11 ∷ 0x22 ∷ []

abbrev messages : Bool
messages =
    -- 16 bytes, 20 with an upper address
    of_message 16 0x1234 0x56789abc 0x2211f0de short
    && none (take 15 short)
    && of_message 20 0x1234 0x0102030456789abc 0x2211f0de long
    && none (take 19 long)
    && none (take 16 long)
    && none []
    -- with others behind it
    && of_message 16 0x0100 0xfee00000 0x49a1 (message32 0xa1 0x49 ++ wire_packet 0x20)
    && of_message 20 0x0100 0x1fee01000 0x31 (message64 0x31 ++ message32 0xa1 0x49)
    -- address bits 1:0
    && none (set short 11 0xbd)
    && none (set short 11 0xbe)
    && none (set long 15 0xbd)
    && none (set long 15 0xbe)
    -- upper address 0 in 20 bytes; each byte of the header
    && none (set (set (set (set long 8 0) 9 0) 10 0) 11 0)
    && none (set short 0 0x41)
    && none (set short 1 1)
    && none (set short 2 1)
    && none (set short 3 2)
    && none (set short 6 1)
    && none (set short 7 0xff)

abbrev wires : Bool
wires =
    -- pin 1 to 4: 1Fh + pin asserts, 23h + pin deasserts
    none (wire_packet 0x1f)
    && of_wire 1 1 (wire_packet 0x20)
    && of_wire 4 1 (wire_packet 0x23)
    && of_wire 1 0 (wire_packet 0x24)
    && of_wire 4 0 (wire_packet 0x27)
    && none (wire_packet 0x28)
    && of_wire 2 1 (wire_packet 0x21 ++ (0xff ∷ []))
    && none (take 15 (wire_packet 0x20))
    && none (set (wire_packet 0x20) 3 1)
    && none (set (wire_packet 0x20) 15 1)

abbrev pub interface : Bool
interface = configs && images && messages && wires
