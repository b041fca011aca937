-- Document 01, "Starting a card": each check at its limit, on both sides of it, and before the next one. Assumes nothing.
use Rattle.std.specs.Prelude.{List, [], ◌∷◌, ◌++◌, ℕ, zero, suc, ◌+◌, ◌-◌, ◌*◌, ◌/◌, set}
use Rattle.model.specs.Start.{given, start_refusal}
use Rattle.model.specs.Cases.{list_from, capability, msix, header, sizes_of}

-- ---- a start's refusal, 0 if it is accepted

-- without MSI-X, for E = 1
abbrev pub plain : List ℕ → ℕ
plain config = start_refusal (given config (sizes_of 0 0) 1 0x100 0 0)

-- with MSI-X at 40h and buffers for n vectors, for E = n
abbrev pub with_msix : (n table pending : ℕ) (sizes : List ℕ) → ℕ
with_msix n table pending sizes =
    start_refusal (given (msix 0x40 0 (n - 1) table pending (list_from 0x40)) sizes n 0x100 (16 * n) (8 * ((n + 63) / 64)))

abbrev pub sizes6 : (a b c d e f : ℕ) → List ℕ
sizes6 a b c d e f = a ∷ b ∷ c ∷ d ∷ e ∷ f ∷ []

-- ---- 10: byte 0Eh low seven bits not 0, or pin (3Dh) above 4

abbrev pub headers : List (ℕ × ℕ)
headers =
    (0, plain (set (header 1) 0x0e 0x80))
    ∷ (10, plain (set (header 1) 0x0e 0x01))
    ∷ (10, plain (set (header 1) 0x0e 0x02))
    ∷ (10, plain (set (header 1) 0x0e 0x04))
    ∷ (10, plain (set (header 1) 0x0e 0x08))
    ∷ (10, plain (set (header 1) 0x0e 0x10))
    ∷ (10, plain (set (header 1) 0x0e 0x20))
    ∷ (10, plain (set (header 1) 0x0e 0x40))
    ∷ (0, plain (set (set (header 1) 0x0d 0xff) 0x0f 0xff))
    ∷ (0, plain (header 0))
    ∷ (0, plain (header 4))
    ∷ (10, plain (header 5))
    ∷ (10, plain (header 0xff))
    ∷ (0, plain (set (set (header 1) 0x3c 0xff) 0x3e 0xff))
    -- before 11
    ∷ (10, plain (set (list_from 0x3c) 0x3d 5))
    ∷ []

-- ---- 11: list broken

-- n capabilities with ID 09h from a place on, four bytes apart; the last one's next pointer is this
abbrev pub chain : (n at last : ℕ) → List ℕ → List ℕ
chain zero at last c = c
chain (suc zero) at last c = capability at 0x09 last 0 c
chain (suc (suc n)) at last c = chain (suc n) (at + 4) last (capability at 0x09 (at + 4) 0 c)

-- MSI at a place, whose Capable is 6: it is refused with 13 if the list has it
abbrev pub too_capable : (at next : ℕ) → List ℕ → List ℕ
too_capable at next c = capability at 0x05 next 0x000c c

abbrev pub pointers : List (ℕ × ℕ)
pointers =
    -- Status bit 4 is 0: no list, whatever byte 34h says
    (0, plain (set (list_from 0x3c) 0x06 0xef))
    ∷ (11, plain (set (list_from 0x3c) 0x06 0x10))
    -- the first pointer: 0 ends, with its low two bits ignored; 04h to 3Ch; 40h to FCh
    ∷ (0, plain (list_from 0x00))
    ∷ (0, plain (list_from 0x03))
    ∷ (11, plain (list_from 0x04))
    ∷ (11, plain (list_from 0x3f))
    ∷ (0, plain (list_from 0x40))
    ∷ (0, plain (list_from 0xff))
    ∷ (13, plain (too_capable 0x40 0 (list_from 0x40)))
    ∷ (13, plain (too_capable 0x40 0 (list_from 0x43)))
    ∷ (13, plain (too_capable 0x44 0 (list_from 0x44)))
    ∷ (13, plain (too_capable 0x44 0 (list_from 0x47)))
    ∷ (0, plain (too_capable 0x44 0 (list_from 0x48)))
    -- byte 34h, not one beside it
    ∷ (0, plain (set (set (list_from 0) 0x33 0x3c) 0x35 0x3c))
    -- the next pointer, the second byte of a capability
    ∷ (0, plain (capability 0x40 0x09 0x03 0x3c3c (list_from 0x40)))
    ∷ (11, plain (capability 0x40 0x09 0x04 0 (list_from 0x40)))
    ∷ (11, plain (capability 0x40 0x09 0x3f 0 (list_from 0x40)))
    ∷ (13, plain (too_capable 0x80 0 (capability 0x40 0x09 0x83 0 (list_from 0x40))))
    ∷ (13, plain (too_capable 0x44 0 (capability 0x40 0x09 0x44 0 (list_from 0x40))))
    -- 48 capabilities, and a 49th
    ∷ (0, plain (chain 48 0x40 0 (list_from 0x40)))
    ∷ (11, plain (chain 48 0x40 0x40 (list_from 0x40)))
    ∷ (13, plain (chain 47 0x44 0x40 (too_capable 0x40 0 (list_from 0x44))))
    ∷ []

-- ---- 12: ID 05h or 11h listed twice

abbrev pub listed_twice : List (ℕ × ℕ)
listed_twice =
    (12, plain (capability 0x60 0x05 0 0 (capability 0x40 0x05 0x60 0 (list_from 0x40))))
    ∷ (12, plain (capability 0x60 0x11 0 0 (capability 0x40 0x11 0x60 0 (list_from 0x40))))
    ∷ (0, plain (capability 0x60 0x09 0 0 (capability 0x40 0x09 0x60 0 (list_from 0x40))))
    -- the IDs beside 05h and 11h are neither: no Capable, no table
    ∷ (0, plain (capability 0x40 0x04 0 0x000c (list_from 0x40)))
    ∷ (0, plain (capability 0x40 0x06 0 0x000c (list_from 0x40)))
    ∷ (0, plain (capability 0x40 0x10 0 0 (list_from 0x40)))
    ∷ (14, plain (capability 0x40 0x11 0 0 (list_from 0x40)))
    ∷ (0, plain (capability 0x40 0x12 0 0 (list_from 0x40)))
    -- before 13
    ∷ (12, plain (too_capable 0x60 0 (too_capable 0x40 0x60 (list_from 0x40))))
    ∷ []

-- ---- 13: Capable above 5; past byte FFh, over the other structure, another listed header inside

-- MSI at a place, and behind it a capability with ID 09h
abbrev pub msi_before : (control behind : ℕ) → ℕ
msi_before control behind = plain (capability behind 0x09 0 0 (capability 0x40 0x05 behind control (list_from 0x40)))

abbrev pub msi_at : (at control : ℕ) → ℕ
msi_at at control = plain (capability at 0x05 0 control (list_from at))

-- MSI-X for one vector at a place, table and pending array in BAR 0, and MSI beside it or, with ID 09h, another one
abbrev pub beside_msix : (at id beside control : ℕ) → ℕ
beside_msix at id beside control =
    start_refusal (given (capability beside id at control (msix at 0 0 0 0x10 (list_from beside))) (sizes_of 0x18 0) 1 0x100 16 8)

abbrev pub structures : List (ℕ × ℕ)
structures =
    -- Multiple Message Capable: control bits 3:1
    (0, msi_at 0x40 0x000a)
    ∷ (13, msi_at 0x40 0x000c)
    ∷ (13, msi_at 0x40 0x000e)
    ∷ (0, msi_at 0x40 0xfe71)
    -- 10, 14, 20 and 24 bytes up to byte FFh
    ∷ (0, msi_at 0xf4 0x0000)
    ∷ (13, msi_at 0xf8 0x0000)
    ∷ (0, msi_at 0xf0 0x0080)
    ∷ (13, msi_at 0xf4 0x0080)
    ∷ (0, msi_at 0xec 0x0100)
    ∷ (13, msi_at 0xf0 0x0100)
    ∷ (0, msi_at 0xe8 0x0180)
    ∷ (13, msi_at 0xec 0x0180)
    -- and a listed header behind them
    ∷ (13, msi_before 0x0000 0x48)
    ∷ (0, msi_before 0x0000 0x4c)
    ∷ (13, msi_before 0x0080 0x4c)
    ∷ (0, msi_before 0x0080 0x50)
    ∷ (13, msi_before 0x0100 0x50)
    ∷ (0, msi_before 0x0100 0x54)
    ∷ (13, msi_before 0x0180 0x54)
    ∷ (0, msi_before 0x0180 0x58)
    -- a header before the structure
    ∷ (0, plain (capability 0x44 0x05 0 0 (capability 0x40 0x09 0x44 0 (list_from 0x40))))
    -- 12 bytes of MSI-X: up to byte FFh, a header behind, MSI behind, MSI before
    ∷ (0, beside_msix 0xf4 0x09 0x40 0)
    ∷ (13, beside_msix 0xf8 0x09 0x40 0)
    ∷ (13, beside_msix 0x40 0x09 0x48 0)
    ∷ (0, beside_msix 0x40 0x09 0x4c 0)
    ∷ (13, beside_msix 0x40 0x05 0x48 0)
    ∷ (0, beside_msix 0x40 0x05 0x4c 0)
    ∷ (13, beside_msix 0x54 0x05 0x40 0x0180)
    ∷ (0, beside_msix 0x58 0x05 0x40 0x0180)
    -- before 14
    ∷ (13, plain (too_capable 0x60 0 (msix 0x40 0x60 0 6 6 (list_from 0x40))))
    ∷ []

-- ---- 14: a BIR above 5; past the BAR's size; the two overlapping in one BAR

abbrev pub regions : List (ℕ × ℕ)
regions =
    -- table and pending array in each BAR, up to its size
    (0, with_msix 1 0x00 0x01 (sizes6 0x10 8 0 0 0 0))
    ∷ (0, with_msix 1 0x02 0x03 (sizes6 0 0 0x10 8 0 0))
    ∷ (0, with_msix 1 0x04 0x05 (sizes6 0 0 0 0 0x10 8))
    ∷ (14, with_msix 1 0x04 0x05 (sizes6 0 0 0 0 0x0f 8))
    ∷ (14, with_msix 1 0x04 0x05 (sizes6 0 0 0 0 0x10 7))
    ∷ (14, with_msix 1 0x06 0x00 (sizes6 8 8 8 8 8 8))
    ∷ (14, with_msix 1 0x07 0x00 (sizes6 8 8 8 8 8 8))
    ∷ (14, with_msix 1 0x00 0x06 (sizes6 0x10 0 0 0 0 0))
    ∷ (14, with_msix 1 0x00 0x07 (sizes6 0x10 0 0 0 0 0))
    -- offsets: bits 31:3
    ∷ (0, with_msix 1 0x08 0x01 (sizes6 0x18 8 0 0 0 0))
    ∷ (14, with_msix 1 0x08 0x01 (sizes6 0x17 8 0 0 0 0))
    ∷ (0, with_msix 1 0x00 0x09 (sizes6 0x10 0x10 0 0 0 0))
    ∷ (14, with_msix 1 0x00 0x09 (sizes6 0x10 0x0f 0 0 0 0))
    ∷ (0, with_msix 1 0x89abcde8 0x76543211 (sizes6 0x89abcdf8 0x76543218 0 0 0 0))
    ∷ (14, with_msix 1 0x89abcde8 0x76543211 (sizes6 0x89abcdf7 0x76543218 0 0 0 0))
    ∷ (14, with_msix 1 0x89abcde8 0x76543211 (sizes6 0x89abcdf8 0x76543217 0 0 0 0))
    ∷ (14, with_msix 1 0xfffffff8 0x01 (sizes6 0xffffffff 8 0 0 0 0))
    -- 16N bytes; 8 bytes for 64 vectors, 16 for 65
    ∷ (0, with_msix 64 0x00 0x01 (sizes6 0x400 8 0 0 0 0))
    ∷ (14, with_msix 64 0x00 0x01 (sizes6 0x3ff 8 0 0 0 0))
    ∷ (14, with_msix 65 0x00 0x01 (sizes6 0x410 15 0 0 0 0))
    ∷ (0, with_msix 65 0x00 0x01 (sizes6 0x410 16 0 0 0 0))
    ∷ (0, with_msix 2048 0x00 0x01 (sizes6 0x8000 0x100 0 0 0 0))
    ∷ (14, with_msix 2048 0x00 0x01 (sizes6 0x7fff 0x100 0 0 0 0))
    ∷ (14, with_msix 2048 0x00 0x01 (sizes6 0x8000 0xff 0 0 0 0))
    -- overlapping in one BAR, the one before the other and the other way round; beside each other; in two BARs
    ∷ (14, with_msix 1 0x05 0x0d (sizes6 0 0 0 0 0 0x18))
    ∷ (0, with_msix 1 0x05 0x15 (sizes6 0 0 0 0 0 0x18))
    ∷ (14, with_msix 1 0x05 0x05 (sizes6 0 0 0 0 0 0x18))
    ∷ (0, with_msix 1 0x0d 0x05 (sizes6 0 0 0 0 0 0x18))
    ∷ (14, with_msix 65 0x0d 0x05 (sizes6 0 0 0 0 0 0x1000))
    ∷ (0, with_msix 65 0x15 0x05 (sizes6 0 0 0 0 0 0x1000))
    ∷ (0, with_msix 1 0x03 0x04 (sizes6 0 0 0 0x10 8 0))
    -- before 15
    ∷ (14, start_refusal (given (msix 0x40 0 0 6 0 (list_from 0x40)) (sizes6 8 0 0 0 0 0) 0 0x100 16 8))
    ∷ []

-- ---- 15: E not 1 to 2,048, or MSI-X present and N not E; 16: requester's low three bits; 17: lengths of the buffers

-- of E events, this requester ID and buffers of these lengths, without and with MSI-X of 11 bits of Table Size
abbrev pub numbers : (events requester table_length pending_length : ℕ) → ℕ
numbers events requester table_length pending_length =
    start_refusal (given (header 1) (sizes_of 0 0) events requester table_length pending_length)

abbrev pub vectors : (control events table_length pending_length : ℕ) → ℕ
vectors control events table_length pending_length =
    start_refusal (given (msix 0x40 0 control 0 1 (list_from 0x40)) (sizes_of 0x10000 0x1000) events 0x100 table_length pending_length)

abbrev pub counts : List (ℕ × ℕ)
counts =
    (15, numbers 0 0x100 0 0)
    ∷ (0, numbers 1 0x100 0 0)
    ∷ (0, numbers 2048 0x100 0 0)
    ∷ (15, numbers 2049 0x100 0 0)
    -- N is Table Size + 1, control bits 10:0
    ∷ (0, vectors 0 1 16 8)
    ∷ (15, vectors 0 2 16 8)
    ∷ (15, vectors 1 1 32 8)
    ∷ (0, vectors 1 2 32 8)
    ∷ (0, vectors 0x0100 257 4112 40)
    ∷ (0, vectors 0x0400 1025 16400 136)
    ∷ (0, vectors 0x07ff 2048 32768 256)
    ∷ (0, vectors 0xf800 1 16 8)
    -- before 16, and 16 before 17
    ∷ (15, numbers 0 0x101 0 0)
    ∷ (16, numbers 1 0x101 0 0)
    ∷ (16, numbers 1 0x102 0 0)
    ∷ (16, numbers 1 0x104 0 0)
    ∷ (0, numbers 1 0x108 0 0)
    -- a requester ID has 16 bits
    ∷ (0, numbers 1 0xfff8 0 0)
    ∷ (16, numbers 1 0x10000 0 0)
    ∷ (0, numbers 1 0 0 0)
    ∷ (16, numbers 1 0x101 1 0)
    -- buffers one byte off, and those of a vector more and less
    ∷ (17, numbers 1 0x100 1 0)
    ∷ (17, numbers 1 0x100 0 1)
    ∷ (17, vectors 0 1 15 8)
    ∷ (17, vectors 0 1 17 8)
    ∷ (17, vectors 0 1 16 7)
    ∷ (17, vectors 0 1 16 9)
    ∷ (17, vectors 0 1 16 16)
    ∷ (0, vectors 63 64 1024 8)
    ∷ (17, vectors 64 65 1040 8)
    ∷ (0, vectors 64 65 1040 16)
    ∷ (0, vectors 127 128 2048 16)
    ∷ (0, vectors 128 129 2064 24)
    ∷ []

abbrev pub starts : List (ℕ × ℕ)
starts = headers ++ pointers ++ listed_twice ++ structures ++ regions ++ counts
