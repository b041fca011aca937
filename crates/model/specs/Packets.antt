-- Document 01, "Packets", as bytes, with the 32-bit data of request [6]. Assumes nothing.
use Rattle.std.specs.Prelude.{Bool, cond, ◌&&◌, List, [], ◌∷◌, ◌++◌, ℕ, ◌+◌, ◌*◌, ◌/◌, eqb, replicate}
use Rattle.words.specs.Bytes.{word16, word32, bytes_of, bytes_high}
use Rattle.model.specs.declared.Shape.{Shape}
use Rattle.model.specs.declared.Mode.{Mode}
use Rattle.model.specs.declared.Mode.TheVariants.{Pin, Msi, Msix}
use Rattle.model.specs.Shape.{form_of}
use Rattle.model.specs.World.{Registers}
use Rattle.model.specs.Vectors.{granted, msi_control_bit}

-- a memory write of one word: three header words with upper address 0, else four
unfoldable pub message : (requester upper address value : ℕ) → List ℕ
message requester upper address value =
    (cond (eqb upper 0) 0x40 0x60 ∷ 0 ∷ 0 ∷ 1 ∷ [])
    ++ bytes_high 2 requester
    ++ (0 ∷ 0x0f ∷ [])
    ++ cond (eqb upper 0) [] (bytes_high 4 upper)
    ++ bytes_high 4 address
    ++ bytes_of 4 value

-- its length
unfoldable pub message_size : (upper : ℕ) → ℕ
message_size upper = cond (eqb upper 0) 16 20

-- the wire's packet: Assert_INTx, or Deassert_INTx
unfoldable pub wire_message : (requester pin : ℕ) → (active : Bool) → List ℕ
wire_message requester pin active =
    (0x34 ∷ 0 ∷ 0 ∷ 0 ∷ [])
    ++ bytes_high 2 requester
    ++ (0 ∷ (cond active 0x1f 0x23 + pin) ∷ [])
    ++ replicate 8 0

-- ---- MSI's registers, by the form

unfoldable pub msi_address : Shape → Registers → ℕ
msi_address s r = word32 r.config (s.msi.at + 4)

unfoldable pub msi_upper : Shape → Registers → ℕ
msi_upper s r = cond s.msi.wide (word32 r.config (s.msi.at + 8)) 0

-- Extended Message Data: control bits 9 (capable) and 10 (enabled) are both set
unfoldable pub data_extended : Shape → Registers → Bool
data_extended s r = s.msi.extended && msi_control_bit s r 10

-- all 32 bits of the data while both are set, else the 16-bit data register: the upper half is 0
unfoldable pub msi_data : Shape → Registers → ℕ
msi_data s r =
    let a : ℕ = s.msi.at + (form_of s).message in
    cond (data_extended s r) (word32 r.config a) (word16 r.config a)

-- ---- the message of vector v, by the registers as they are

-- the words of entry v of an MSI-X table: address, upper address, data
unfoldable pub entry_message : (requester : ℕ) → List ℕ → ℕ → List ℕ
entry_message requester table v = message requester (word32 table (16 * v + 4)) (word32 table (16 * v)) (word32 table (16 * v + 8))

-- MSI: the low log2(granted) bits of the data register are replaced by v. MSI-X: the entry's words
unfoldable pub message_of : Mode → Shape → (requester : ℕ) → Registers → ℕ → List ℕ
message_of Pin s requester r v = []
message_of Msi s requester r v =
    message requester (msi_upper s r) (msi_address s r) (msi_data s r / granted s r * granted s r + v)
message_of Msix s requester r v = entry_message requester r.table v
