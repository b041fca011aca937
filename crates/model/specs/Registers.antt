-- Document 01, "Registers", with the 32-bit data of request [6]: which bits are writable, which are stored as 0, what a read shows and a write changes.
-- A bit mask for each byte.
-- Assumes nothing.
use Rattle.std.specs.Prelude.{Bool, true, cond, ◌&&◌, List, [], ◌∷◌, ◌++◌, ℕ, zero, suc, ◌+◌, ◌-◌, ◌*◌, ◌%◌, ◌^◌, ltb, eqb, set, replicate}
use Rattle.words.specs.Lists.{within, first_of, each_at}
use Rattle.words.specs.Bits.{clear, merge, of_bool}
use Rattle.words.specs.Bytes.{byte, bytes_of}
use Rattle.model.specs.declared.Region.{Region}
use Rattle.model.specs.declared.Shape.{Shape}
use Rattle.model.specs.Shape.{form_of, msi_present, msix_present, table_bytes, pending_bytes}
use Rattle.model.specs.World.{Endpoint, Registers}

-- ---- the header, byte i below 40h

-- Command bits 1, 2 and 10, and Interrupt Line
unfoldable pub header_writable : ℕ → ℕ
header_writable i = first_of ((0x06, eqb i 4) ∷ (0x04, eqb i 5) ∷ (0xff, eqb i 0x3c) ∷ [])

-- Status bit 3
unfoldable pub header_zero : ℕ → ℕ
header_zero i = cond (eqb i 6) 0x08 0

-- ---- the MSI capability, byte k of it: in the rows below the first that fits counts

-- the mask bits below 2^Capable, as the four bytes of their register
unfoldable pub mask_bytes : Shape → List ℕ
mask_bytes s = bytes_of 4 (2 ^ (2 ^ s.msi.capable) - 1)

unfoldable pub in_mask : Shape → ℕ → Bool
in_mask s k = s.msi.masks && within (form_of s).mask 4 k

unfoldable pub in_pending_register : Shape → ℕ → Bool
in_pending_register s k = s.msi.masks && within (form_of s).pending 4 k

-- the bytes of the data: with control bit 9 the 16 bits after the data register, too
unfoldable pub data_bytes : Shape → ℕ
data_bytes s = cond s.msi.extended 4 2

-- control bits 0 and 6:4, and with bit 9 bit 10; address bits 31:2; upper address; data; mask bits below 2^Capable
unfoldable pub msi_writable : Shape → ℕ → ℕ
msi_writable s k =
    first_of
    ((0x71, eqb k 2)
    ∷ (0x04, eqb k 3 && s.msi.extended)
    ∷ (0x00, ltb k 4)
    ∷ (0xfc, eqb k 4)
    ∷ (0xff, ltb k 8)
    ∷ (0xff, s.msi.wide && ltb k 12)
    ∷ (0xff, within (form_of s).message (data_bytes s) k)
    ∷ (byte (mask_bytes s) (k - (form_of s).mask), in_mask s k)
    ∷ [])

-- address bits 1:0; masks at or above 2^Capable; the Pending register
unfoldable pub msi_zero : Shape → ℕ → ℕ
msi_zero s k =
    first_of
    ((0x03, eqb k 4)
    ∷ (0x00, ltb k 8)
    ∷ (clear (byte (mask_bytes s) (k - (form_of s).mask)) 0xff, in_mask s k)
    ∷ (0xff, in_pending_register s k)
    ∷ [])

-- ---- the MSI-X capability, byte k of it: control bits 14 and 15

unfoldable pub msix_writable : ℕ → ℕ
msix_writable k = cond (eqb k 3) 0xc0 0

-- ---- configuration byte i

unfoldable pub in_msi : Shape → ℕ → Bool
in_msi s i = msi_present s && within s.msi.at (form_of s).size i

unfoldable pub in_msix : Shape → ℕ → Bool
in_msix s i = msix_present s && within s.msix.at 12 i

unfoldable pub writable : Shape → ℕ → ℕ
writable s i =
    cond (ltb i 64) (header_writable i)
    (cond (in_msi s i) (msi_writable s (i - s.msi.at)) (cond (in_msix s i) (msix_writable (i - s.msix.at)) 0))

unfoldable pub stored_zero : Shape → ℕ → ℕ
stored_zero s i = cond (ltb i 64) (header_zero i) (cond (in_msi s i) (msi_zero s (i - s.msi.at)) 0)

-- the bits of byte i that no call changes
unfoldable pub fixed_byte : Shape → ℕ → ℕ → ℕ
fixed_byte s i b = clear (writable s i) (clear (stored_zero s i) b)

-- ---- the table, byte i: address, upper address, data, control

-- address bits 31:2, upper address, data, the mask bit
unfoldable pub entry_writable : ℕ → ℕ
entry_writable i = first_of ((0xfc, eqb (i % 16) 0) ∷ (0xff, ltb (i % 16) 12) ∷ (0x01, eqb (i % 16) 12) ∷ [])

-- address bits 1:0, control bits 31:1
unfoldable pub entry_zero : ℕ → ℕ
entry_zero i = first_of ((0x03, eqb (i % 16) 0) ∷ (0x00, ltb (i % 16) 12) ∷ (0xfe, eqb (i % 16) 12) ∷ (0xff, true) ∷ [])

-- ---- a write: the bytes from place i on, each through its mask; any other written bit is dropped

unfoldable pub written : (mask : ℕ → ℕ) → List ℕ → ℕ → List ℕ → List ℕ
written mask l i [] = l
written mask l i (b ∷ bs) = written mask (set l i (merge (mask i) (byte l i) b)) (suc i) bs

-- ---- a read of configuration byte i: Status bit 3 is the line, and MSI Pending the waiting bits

unfoldable pub shown : Shape → Endpoint → ℕ → ℕ
shown s u i =
    cond (eqb i 6) (byte u.function.config 6 + 8 * of_bool u.function.line)
    (cond (in_msi s i && in_pending_register s (i - s.msi.at)) (byte (bytes_of 4 u.function.waiting) (i - s.msi.at - (form_of s).pending))
    (byte u.function.config i))

-- ---- where offset o of BAR b falls. An aligned access lies whole inside or whole outside

unfoldable pub in_region : Region → ℕ → ℕ → ℕ → Bool
in_region r n b o = eqb b r.bar && within r.at n o

unfoldable pub in_table : Shape → ℕ → ℕ → Bool
in_table s b o = msix_present s && in_region s.msix.table (table_bytes s) b o

unfoldable pub in_pending : Shape → ℕ → ℕ → Bool
in_pending s b o = msix_present s && in_region s.msix.pending (pending_bytes s) b o

-- byte o of BAR b
unfoldable pub bar_byte : Shape → Endpoint → ℕ → ℕ → ℕ
bar_byte s u b o = cond (in_table s b o) (byte u.table (o - s.msix.table.at)) (byte u.pending (o - s.msix.pending.at))

-- ---- the registers after a write

abbrev pub config_written : Shape → Registers → ℕ → List ℕ → Registers
config_written s r o l = record { config = written (writable s) r.config o l; table = r.table }

-- writes to the pending array change nothing
abbrev pub bar_written : Shape → Registers → ℕ → ℕ → List ℕ → Registers
bar_written s r b o l =
    record { config = r.config; table = cond (in_table s b o) (written entry_writable r.table (o - s.msix.table.at) l) r.table }

-- ---- the registers of a started card: writable bits 0, but for the mask bits of table entries, and bits stored as 0

unfoldable pub started_config : Shape → List ℕ → List ℕ
started_config s c = each_at (fixed_byte s) 0 c

unfoldable pub started_table : ℕ → List ℕ
started_table zero = []
started_table (suc n) = replicate 12 0 ++ (1 ∷ 0 ∷ 0 ∷ 0 ∷ started_table n)
