-- Document 01, "Packets" and the four forms: each register in its place, and the packet that carries it. Assumes nothing.
use Rattle.std.specs.Prelude.{List, [], ◌∷◌, ◌++◌, ℕ, ◌+◌, ◌*◌}
use Rattle.model.specs.declared.Answer.TheVariants.{Sent}
use Rattle.model.specs.Play.{Step}
use Rattle.model.specs.Cases.{capability, msix, list_from, sizes_of, writes, reads_config, raises, command, control, message32}
use Rattle.model.specs.Examples.Parts.{starts_as, puts, form_case}

-- ---- the four forms, for requester 1238h and Capable 3: address, upper address and data in their places, vector 6 of 8

-- address 12345678h and data 4321h with its low three bits replaced by 6; above 4 GiB with upper address 9ABCDEF0h
abbrev pub low : List ℕ
low = 0x40 ∷ 0x00 ∷ 0x00 ∷ 0x01 ∷ 0x12 ∷ 0x38 ∷ 0x00 ∷ 0x0f ∷ 0x12 ∷ 0x34 ∷ 0x56 ∷ 0x78 ∷ 0x26 ∷ 0x43 ∷ 0x00 ∷ 0x00 ∷ []

abbrev pub high : List ℕ
high =
    0x60 ∷ 0x00 ∷ 0x00 ∷ 0x01 ∷ 0x12 ∷ 0x38 ∷ 0x00 ∷ 0x0f ∷ 0x9a ∷ 0xbc ∷ 0xde ∷ 0xf0 ∷ 0x12 ∷ 0x34 ∷ 0x56 ∷ 0x78
    ∷ 0x26 ∷ 0x43 ∷ 0x00 ∷ 0x00 ∷ []

-- Enable 1: event 6 means vector 0 of 2
abbrev pub fewer : List Step
fewer =
    control 0x0011 []
    ∷ raises 6 16 Sent (0x40 ∷ 0x00 ∷ 0x00 ∷ 0x01 ∷ 0x12 ∷ 0x38 ∷ 0x00 ∷ 0x0f ∷ 0x12 ∷ 0x34 ∷ 0x56 ∷ 0x78 ∷ 0x20 ∷ 0x43 ∷ 0x00 ∷ 0x00 ∷ []) ∷ []

-- MSI at 40h on, bus mastering on, address written with bits 1:0 set
abbrev pub form : (control : ℕ) → List Step → List Step
form ctl steps =
    starts_as 0x1238 (capability 0x40 0x05 0 ctl (list_from 0x40)) (sizes_of 0 0) 8 0
    ++ (command 0x0004 ∷ control 0x0031 [] ∷ writes 0x44 4 0x1234567b [] ∷ reads_config 0x44 4 0x12345678 ∷ steps)

-- 32-bit: data at 08h; 0Ch belongs to no register
abbrev pub form32 : List Step
form32 = form 0x0006 (writes 0x48 4 0xdead4321 [] ∷ writes 0x4c 4 0xffffffff [] ∷ reads_config 0x48 4 0x4321 ∷ reads_config 0x4c 4 0 ∷ raises 6 16 Sent low ∷ [])

-- 64-bit: upper address at 08h, data at 0Ch
abbrev pub form64 : List Step
form64 =
    form 0x0086
    (writes 0x48 4 0x9abcdef0 [] ∷ writes 0x4c 4 0xdead4321 [] ∷ reads_config 0x48 4 0x9abcdef0 ∷ reads_config 0x4c 4 0x4321
    ∷ raises 6 20 Sent high ∷ writes 0x48 4 0 [] ∷ raises 6 16 Sent low ∷ fewer)

-- 32-bit with masks: data at 08h, mask at 0Ch
abbrev pub form32_masks : List Step
form32_masks =
    form 0x0106
    (writes 0x48 4 0xdead4321 [] ∷ writes 0x4c 4 0xffffffbf [] ∷ reads_config 0x48 4 0x4321 ∷ reads_config 0x4c 4 0xbf ∷ raises 6 16 Sent low ∷ [])

-- 64-bit with masks: upper address at 08h, data at 0Ch, mask at 10h
abbrev pub form64_masks : List Step
form64_masks =
    form 0x0186
    (writes 0x48 4 0x9abcdef0 [] ∷ writes 0x4c 4 0xdead4321 [] ∷ writes 0x50 4 0xffffffbf [] ∷ reads_config 0x50 4 0xbf
    ∷ raises 6 20 Sent high ∷ writes 0x48 4 0 [] ∷ raises 6 16 Sent low ∷ writes 0x50 4 0 [] ∷ fewer)

-- ---- granted: 2^(the smaller of Enable and Capable). Events 21 and 10 of 32 over data A5FFh

abbrev pub grants : (enable x y : ℕ) → List Step
grants enable x y = control (16 * enable + 1) [] ∷ raises 21 16 Sent (message32 x 0xa5) ∷ raises 10 16 Sent (message32 y 0xa5) ∷ []

abbrev pub capable : (k : ℕ) → List Step → List Step
capable k steps = form_case (2 * k) 32 (command 0x0004 ∷ writes 0x44 4 0xfee00000 [] ∷ writes 0x48 2 0xa5ff [] ∷ steps)

-- each Enable below, at and above Capable 5; Enable 7 over each Capable
abbrev pub enables : List Step
enables =
    capable 5
    (grants 0 0xff 0xff ++ grants 1 0xff 0xfe ++ grants 2 0xfd 0xfe ++ grants 3 0xfd 0xfa ++ grants 4 0xf5 0xfa ++ grants 5 0xf5 0xea
    ++ grants 6 0xf5 0xea ++ grants 7 0xf5 0xea)

-- ---- MSI-X: the words of each entry, the data in all its bits

abbrev pub entries : List Step
entries =
    starts_as 0x1238 (msix 0x40 0 1 0 0x1000 (list_from 0x40)) (sizes_of 0x2000 0) 2 2
    ++ (command 0x0006 ∷ control 0x8000 []
    ∷ puts 0 0x00 8 0x000000001234567b ∷ puts 0 0x08 8 0x00000000fedc4326
    ∷ puts 0 0x10 8 0x9abcdef012345678 ∷ puts 0 0x18 8 0x0000000000004326
    ∷ raises 0 16 Sent
    (0x40 ∷ 0x00 ∷ 0x00 ∷ 0x01 ∷ 0x12 ∷ 0x38 ∷ 0x00 ∷ 0x0f ∷ 0x12 ∷ 0x34 ∷ 0x56 ∷ 0x78 ∷ 0x26 ∷ 0x43 ∷ 0xdc ∷ 0xfe ∷ [])
    ∷ raises 1 20 Sent high ∷ [])

abbrev pub messages : List (List Step)
messages =
    form32 ∷ form64 ∷ form32_masks ∷ form64_masks ∷ enables
    ∷ capable 0 (grants 7 0xff 0xff) ∷ capable 1 (grants 7 0xff 0xfe) ∷ capable 2 (grants 7 0xfd 0xfe) ∷ capable 3 (grants 7 0xfd 0xfa)
    ∷ capable 4 (grants 7 0xf5 0xfa) ∷ entries ∷ []
