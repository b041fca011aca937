-- What the 256 configuration bytes say of MSI and MSI-X: presence, form, Capable, N and the places in the BARs. Assumes nothing.
use Rattle.std.specs.Prelude.{Bool, true, false, not, cond, ◌&&◌, List, [], ◌∷◌, ℕ, ◌+◌, ◌*◌, ◌/◌, ◌%◌, ◌^◌, eqb}
use Rattle.words.specs.Bits.{field}
use Rattle.words.specs.Bytes.{byte, bit_at, word32}
use Rattle.model.specs.Capabilities.{capabilities, listed, with_id}
use Rattle.model.specs.declared.Form.{Form}
use Rattle.model.specs.declared.Region.{Region}
use Rattle.model.specs.declared.MsiShape.{MsiShape}
use Rattle.model.specs.declared.MsixShape.{MsixShape}
use Rattle.model.specs.declared.Shape.{Shape}

-- ---- the four forms of the MSI capability

abbrev pub row : ℕ → ℕ → ℕ → ℕ → Form
row message mask pending size = record { message = message; mask = mask; pending = pending; size = size }

-- by control bits 8 (masks) and 7 (64-bit)
unfoldable pub forms : (masks wide : Bool) → Form
forms false false = row 0x08 0 0 10
forms false true = row 0x0c 0 0 14
forms true false = row 0x08 0x0c 0x10 20
forms true true = row 0x0c 0x10 0x14 24

-- the form of a card's MSI: with control bit 9 the unmasked forms hold 12 and 16 bytes
unfoldable pub form_of : Shape → Form
form_of s =
    let f : Form = forms s.msi.masks s.msi.wide in
    row f.message f.mask f.pending (f.size + cond (s.msi.extended && not s.msi.masks) 2 0)

-- ---- the capability at place a: its control register is at a + 2

unfoldable pub msi_at : List ℕ → ℕ → MsiShape
msi_at c a = record { at = a; capable = field (byte c (a + 2)) 1 3; wide = bit_at c (a + 2) 7; masks = bit_at c (a + 2) 8; extended = bit_at c (a + 2) 9 }

-- a BIR and the offset above it
unfoldable pub region_at : List ℕ → ℕ → Region
region_at c a = record { bar = word32 c a % 8; at = word32 c a / 8 * 8 }

-- N is Table Size + 1, control bits 10:0
unfoldable pub msix_at : List ℕ → ℕ → MsixShape
msix_at c a = record { at = a; vectors = byte c (a + 2) + 256 * field (byte c (a + 3)) 0 3 + 1; table = region_at c (a + 4); pending = region_at c (a + 8) }

unfoldable pub no_msi : MsiShape
no_msi = record { at = 0; capable = 0; wide = false; masks = false; extended = false }

unfoldable pub no_msix : MsixShape
no_msix = record { at = 0; vectors = 0; table = record { bar = 0; at = 0 }; pending = record { bar = 0; at = 0 } }

-- of the places of the capabilities with its ID: the first, if there is one
unfoldable pub msi_of : List ℕ → List ℕ → MsiShape
msi_of c [] = no_msi
msi_of c (a ∷ l) = msi_at c a

unfoldable pub msix_of : List ℕ → List ℕ → MsixShape
msix_of c [] = no_msix
msix_of c (a ∷ l) = msix_at c a

-- ---- the shape of a card

unfoldable pub shape_in : List ℕ → List ℕ → Shape
shape_in c places = record { msi = msi_of c (with_id c places 0x05); msix = msix_of c (with_id c places 0x11) }

unfoldable pub shape_of : List ℕ → Shape
shape_of c = shape_in c (listed (capabilities c))

-- no capability stands at byte 0
unfoldable pub msi_present : Shape → Bool
msi_present s = not (eqb s.msi.at 0)

unfoldable pub msix_present : Shape → Bool
msix_present s = not (eqb s.msix.at 0)

-- 2^Capable: the vectors that MSI has
unfoldable pub msi_vectors : Shape → ℕ
msi_vectors s = cond (msi_present s) (2 ^ s.msi.capable) 0

-- the lengths of table and pending array
unfoldable pub table_bytes : Shape → ℕ
table_bytes s = 16 * s.msix.vectors

unfoldable pub pending_bytes : Shape → ℕ
pending_bytes s = 8 * ((s.msix.vectors + 63) / 64)
