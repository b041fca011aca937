-- Request [6] of document 02, 32-bit MSI data: control bits 9 and 10, both halves of the data and the lengths, in each form. Assumes nothing.
use Rattle.std.specs.Prelude.{List, [], ◌∷◌, ◌++◌, ℕ, ◌+◌, ◌*◌, replicate}
use Rattle.words.specs.Bytes.{bytes_of}
use Rattle.model.specs.declared.Answer.TheVariants.{Done, Sent}
use Rattle.model.specs.Calls.{restore}
use Rattle.model.specs.Play.{Step, lends, does}
use Rattle.model.specs.Cases.{put, capability, list_from, sizes_of, writes, reads_config, raises, resets, saves, command, control}
use Rattle.model.specs.Examples.Parts.{starts_as, form_case, image_bytes}
use Rattle.model.specs.Examples.Registers.{capability_bits}
use Rattle.model.specs.Examples.Starts.{msi_before, msi_at, beside_msix}

-- ---- with bit 9, bit 10 and four bytes of data are writable, and 0 after a start; bit 9 and bits 15:11 are as given

-- 32-bit: data at 08h
abbrev pub bits32 : List Step
bits32 =
    capability_bits (0x05 ∷ 0x03 ∷ 0x7b ∷ 0xfe ∷ [])
    (0x05 ∷ 0x03 ∷ 0x0a ∷ 0xfa ∷ replicate 8 0x00)
    (0x05 ∷ 0x03 ∷ 0x7b ∷ 0xfe ∷ 0xfc ∷ replicate 7 0xff)

-- 64-bit: upper address at 08h, data at 0Ch
abbrev pub bits64 : List Step
bits64 =
    capability_bits (0x05 ∷ 0x03 ∷ 0xfb ∷ 0xfe ∷ [])
    (0x05 ∷ 0x03 ∷ 0x8a ∷ 0xfa ∷ replicate 12 0x00)
    (0x05 ∷ 0x03 ∷ 0xfb ∷ 0xfe ∷ 0xfc ∷ replicate 11 0xff)

-- 32-bit with masks, Capable 5: mask at 0Ch, Pending at 10h
abbrev pub bits32_masks : List Step
bits32_masks =
    capability_bits (0x05 ∷ 0x03 ∷ 0x7b ∷ 0xff ∷ [])
    (0x05 ∷ 0x03 ∷ 0x0a ∷ 0xfb ∷ replicate 16 0x00)
    (0x05 ∷ 0x03 ∷ 0x7b ∷ 0xff ∷ 0xfc ∷ replicate 11 0xff ++ replicate 4 0x00)

-- 64-bit with masks, Capable 2: mask at 10h, Pending at 14h
abbrev pub bits64_masks : List Step
bits64_masks =
    capability_bits (0x05 ∷ 0x03 ∷ 0xf5 ∷ 0xff ∷ [])
    (0x05 ∷ 0x03 ∷ 0x84 ∷ 0xfb ∷ replicate 20 0x00)
    (0x05 ∷ 0x03 ∷ 0xf5 ∷ 0xff ∷ 0xfc ∷ replicate 11 0xff ++ (0x0f ∷ replicate 7 0x00))

-- ---- the message, for requester 1238h and Capable 3: data DEAD4321h, vector 6 of 8

-- address 12345678h, and these two upper bytes of the data; above 4 GiB with upper address 9ABCDEF0h
abbrev pub low : (x y : ℕ) → List ℕ
low x y = 0x40 ∷ 0x00 ∷ 0x00 ∷ 0x01 ∷ 0x12 ∷ 0x38 ∷ 0x00 ∷ 0x0f ∷ 0x12 ∷ 0x34 ∷ 0x56 ∷ 0x78 ∷ 0x26 ∷ 0x43 ∷ x ∷ y ∷ []

abbrev pub high : (x y : ℕ) → List ℕ
high x y =
    0x60 ∷ 0x00 ∷ 0x00 ∷ 0x01 ∷ 0x12 ∷ 0x38 ∷ 0x00 ∷ 0x0f ∷ 0x9a ∷ 0xbc ∷ 0xde ∷ 0xf0 ∷ 0x12 ∷ 0x34 ∷ 0x56 ∷ 0x78
    ∷ 0x26 ∷ 0x43 ∷ x ∷ y ∷ []

-- the card of this configuration with MSI at 40h on, bits 6:4 and 10 written with 1, bus mastering on
abbrev pub on_with : List ℕ → List Step → List Step
on_with config steps =
    starts_as 0x1238 config (sizes_of 0 0) 8 0 ++ (command 0x0004 ∷ control 0x0431 [] ∷ writes 0x44 4 0x12345678 [] ∷ steps)

abbrev pub on : (control : ℕ) → List Step → List Step
on ctl steps = on_with (capability 0x40 0x05 0 ctl (list_from 0x40)) steps

-- with both bits all 32 bits; with bit 10 clear the upper half is 0, and stays in the register; then the lower half alone is written, and the upper one;
-- a reset clears bit 10 and both halves. The data is at d, and the control register given as ctl
abbrev pub halves : (ctl d : ℕ) (packet : ℕ → ℕ → List ℕ) → List Step
halves ctl d packet =
    writes d 4 0xdead4321 [] ∷ reads_config d 4 0xdead4321 ∷ raises 6 20 Sent (packet 0xad 0xde)
    ∷ control 0x0031 [] ∷ reads_config d 4 0xdead4321 ∷ raises 6 20 Sent (packet 0x00 0x00)
    ∷ control 0x0431 [] ∷ writes d 2 0x4321 [] ∷ reads_config d 4 0xdead4321 ∷ writes (d + 2) 2 0xbe01 [] ∷ reads_config d 4 0xbe014321
    ∷ raises 6 20 Sent (packet 0x01 0xbe)
    ∷ resets [] ∷ reads_config 0x42 2 ctl ∷ reads_config d 4 0 ∷ []

abbrev pub form32 : List Step
form32 = on 0x0206 (halves 0x0206 0x48 low)

abbrev pub form64 : List Step
form64 = on 0x0286 (writes 0x48 4 0x9abcdef0 [] ∷ halves 0x0286 0x4c high)

abbrev pub form32_masks : List Step
form32_masks = on 0x0306 (writes 0x4c 4 0xffffffbf [] ∷ reads_config 0x4c 4 0xbf ∷ halves 0x0306 0x48 low)

abbrev pub form64_masks : List Step
form64_masks = on 0x0386 (writes 0x48 4 0x9abcdef0 [] ∷ writes 0x50 4 0xffffffbf [] ∷ reads_config 0x50 4 0xbf ∷ halves 0x0386 0x4c high)

-- ---- bit 10 as given, without bit 9: it stays, the upper half of the data stays as given, and that of the message is 0

abbrev pub without_bit9 : List Step
without_bit9 =
    on_with (put 0x4a (0xcd ∷ 0xab ∷ []) (capability 0x40 0x05 0 0x0406 (list_from 0x40)))
    (reads_config 0x42 2 0x0437 ∷ writes 0x48 4 0xdead4321 [] ∷ reads_config 0x48 4 0xabcd4321 ∷ raises 6 20 Sent (low 0x00 0x00)
    ∷ control 0x0031 [] ∷ reads_config 0x42 2 0x0437 ∷ resets [] ∷ reads_config 0x42 2 0x0406 ∷ reads_config 0x48 4 0xabcd0000 ∷ [])

-- ---- data FFFFFFFFh, with Capable 5 and each Enable: the low bits of events 21 and 10 of 32, and no carry

abbrev pub grants : (enable x y : ℕ) → List Step
grants enable x y =
    let packet : ℕ → List ℕ = λ b. 0x40 ∷ 0 ∷ 0 ∷ 1 ∷ 1 ∷ 0 ∷ 0 ∷ 0x0f ∷ 0xfe ∷ 0xe0 ∷ 0 ∷ 0 ∷ b ∷ 0xff ∷ 0xff ∷ 0xff ∷ [] in
    control (0x0401 + 16 * enable) [] ∷ raises 21 16 Sent (packet x) ∷ raises 10 16 Sent (packet y) ∷ []

abbrev pub enables : List Step
enables =
    form_case 0x020a 32
    (command 0x0004 ∷ writes 0x44 4 0xfee00000 [] ∷ writes 0x48 4 0xffffffff []
    ∷ grants 0 0xff 0xff ++ grants 1 0xff 0xfe ++ grants 2 0xfd 0xfe ++ grants 3 0xfd 0xfa ++ grants 4 0xf5 0xfa ++ grants 5 0xf5 0xea
    ++ grants 6 0xf5 0xea ++ grants 7 0xf5 0xea)

-- ---- an image of before the request, with bits 9 and 10 and all 32 bits of the data as a supplier gave them

abbrev pub old_config : (command control address value : ℕ) → List ℕ
old_config cmd ctl address value = put 0x48 (bytes_of 4 value) (put 0x44 (bytes_of 4 address) (put 0x04 (bytes_of 2 cmd) (capability 0x40 0x05 0 ctl (list_from 0x40))))

-- it gives the card as it was, which sends all 32 bits, until a write or a reset clears bit 10
abbrev pub old_image : List Step
old_image =
    let image : List ℕ = image_bytes 0 4 0 (sizes_of 0 0) (old_config 0x0004 0x0627 0xfee00000 0xabcd49a3) [] in
    lends 0 ∷ does (restore image) [] Done ∷ saves 294 image
    ∷ raises 1 16 Sent (0x40 ∷ 0 ∷ 0 ∷ 1 ∷ 1 ∷ 0 ∷ 0 ∷ 0x0f ∷ 0xfe ∷ 0xe0 ∷ 0 ∷ 0 ∷ 0xa1 ∷ 0x49 ∷ 0xcd ∷ 0xab ∷ [])
    ∷ control 0x0021 []
    ∷ raises 1 16 Sent (0x40 ∷ 0 ∷ 0 ∷ 1 ∷ 1 ∷ 0 ∷ 0 ∷ 0x0f ∷ 0xfe ∷ 0xe0 ∷ 0 ∷ 0 ∷ 0xa1 ∷ 0x49 ∷ 0x00 ∷ 0x00 ∷ [])
    ∷ resets [] ∷ saves 294 (image_bytes 0 4 0 (sizes_of 0 0) (old_config 0x0000 0x0206 0 0) []) ∷ []

abbrev pub extended : List (List Step)
extended =
    bits32 ∷ bits64 ∷ bits32_masks ∷ bits64_masks ∷ form32 ∷ form64 ∷ form32_masks ∷ form64_masks ∷ without_bit9 ∷ enables ∷ old_image ∷ []

-- ---- 12, 16, 20 and 24 bytes: up to byte FFh, a listed header behind them, MSI-X behind them

abbrev pub lengths : List (ℕ × ℕ)
lengths =
    (0, msi_at 0xf4 0x0200)
    ∷ (13, msi_at 0xf8 0x0200)
    ∷ (0, msi_at 0xf0 0x0280)
    ∷ (13, msi_at 0xf4 0x0280)
    ∷ (0, msi_at 0xec 0x0300)
    ∷ (13, msi_at 0xf0 0x0300)
    ∷ (0, msi_at 0xe8 0x0380)
    ∷ (13, msi_at 0xec 0x0380)
    ∷ (13, msi_before 0x0200 0x48)
    ∷ (0, msi_before 0x0200 0x4c)
    ∷ (13, msi_before 0x0280 0x4c)
    ∷ (0, msi_before 0x0280 0x50)
    ∷ (13, msi_before 0x0300 0x50)
    ∷ (0, msi_before 0x0300 0x54)
    ∷ (13, msi_before 0x0380 0x54)
    ∷ (0, msi_before 0x0380 0x58)
    ∷ (13, beside_msix 0x48 0x05 0x40 0x0200)
    ∷ (0, beside_msix 0x4c 0x05 0x40 0x0200)
    ∷ (13, beside_msix 0x4c 0x05 0x40 0x0280)
    ∷ (0, beside_msix 0x50 0x05 0x40 0x0280)
    ∷ []
