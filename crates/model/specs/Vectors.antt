-- Document 01, "Who is open": the mechanism in force, granted, open, and the waiting bits. Assumes nothing.
use Rattle.std.specs.Prelude.{Bool, true, false, not, cond, ◌&&◌, List, ℕ, ◌+◌, ◌*◌, ◌/◌, ◌%◌, ◌^◌, min, ltb, eqb, set}
use Rattle.std.proofs.Math.Option.{Option, none, some, get_or, map}
use Rattle.words.specs.Lists.{keep, count}
use Rattle.words.specs.Bits.{bit, field}
use Rattle.words.specs.Bytes.{byte, bit_at}
use Rattle.model.specs.declared.Shape.{Shape}
use Rattle.model.specs.declared.Mode.{Mode}
use Rattle.model.specs.declared.Mode.TheVariants.{Pin, Msi, Msix}
use Rattle.model.specs.Shape.{form_of, msi_present, msix_present, msi_vectors}
use Rattle.model.specs.World.{Endpoint, Registers, registers, with_waiting}

-- ---- what the registers say

unfoldable pub command_bit : Registers → ℕ → Bool
command_bit r k = bit_at r.config 4 k

unfoldable pub msi_control_bit : Shape → Registers → ℕ → Bool
msi_control_bit s r k = bit_at r.config (s.msi.at + 2) k

unfoldable pub msix_control_bit : Shape → Registers → ℕ → Bool
msix_control_bit s r k = bit_at r.config (s.msix.at + 2) k

-- MSI control bits 6:4
unfoldable pub enable_field : Shape → Registers → ℕ
enable_field s r = field (byte r.config (s.msi.at + 2)) 4 3

-- MSI-X if present and its bit 15 is set; else MSI if present and bit 0 is set; else the pin
unfoldable pub mode_of : Shape → Registers → Mode
mode_of s r =
    cond (msix_present s && msix_control_bit s r 15) Msix
    (cond (msi_present s && msi_control_bit s r 0) Msi Pin)

unfoldable pub same_mode : Mode → Mode → Bool
same_mode Pin Pin = true
same_mode Pin Msi = false
same_mode Pin Msix = false
same_mode Msi Pin = false
same_mode Msi Msi = true
same_mode Msi Msix = false
same_mode Msix Pin = false
same_mode Msix Msi = false
same_mode Msix Msix = true

unfoldable pub in_force : Mode → Shape → Registers → Bool
in_force m s r = same_mode m (mode_of s r)

-- 2^(the smaller of Enable and Capable)
unfoldable pub granted : Shape → Registers → ℕ
granted s r = 2 ^ min (enable_field s r) s.msi.capable

-- the mask bit of entry v of an MSI-X table: control bit 0, in byte 12
unfoldable pub entry_masked : List ℕ → ℕ → Bool
entry_masked table v = bit_at table (16 * v + 12) 0

-- the vector's own mask bit; without masks it is 0
unfoldable pub masked : Mode → Shape → Registers → ℕ → Bool
masked Pin s r v = false
masked Msi s r v = s.msi.masks && bit_at r.config (s.msi.at + (form_of s).mask) v
masked Msix s r v = entry_masked r.table v

-- MSI: below granted. MSI-X: Function Mask 0
unfoldable pub enabled : Mode → Shape → Registers → ℕ → Bool
enabled Pin s r v = false
enabled Msi s r v = ltb v (granted s r)
enabled Msix s r v = ltb v s.msix.vectors && not (msix_control_bit s r 14)

-- vector v of the mechanism m is open: m is in force, the vector is enabled, its mask 0, Command bit 2 set. Otherwise it is shut
unfoldable pub is_open : Mode → Shape → Registers → ℕ → Bool
is_open m s r v = in_force m s r && enabled m s r v && not (masked m s r v) && command_bit r 2

-- the vector that an event means; under the pin none
unfoldable pub vector_of : Mode → Shape → Registers → ℕ → Option ℕ
vector_of Pin s r e = none
vector_of Msi s r e = some (e % granted s r)
vector_of Msix s r e = some e

-- event e means vector v
unfoldable pub means : Mode → Shape → Registers → (e v : ℕ) → Bool
means m s r e v = get_or (map (λ x. eqb x v) (vector_of m s r e)) false

-- ---- waiting bits: MSI's in the card's state, MSI-X's in the pending array

-- bit v of a pending array
unfoldable pub pending_bit : List ℕ → ℕ → Bool
pending_bit pending v = bit (byte pending (v / 8)) (v % 8)

unfoldable pub waits : Mode → Endpoint → ℕ → Bool
waits Pin u v = false
waits Msi u v = bit u.function.waiting v
waits Msix u v = pending_bit u.pending v

-- the waiting bit of vector v set or cleared: `change` is set_bit or clear_bit
unfoldable pub change_waiting : (change : ℕ → ℕ → ℕ) → Mode → Endpoint → ℕ → Endpoint
change_waiting change Pin u v = u
change_waiting change Msi u v = with_waiting u (change u.function.waiting v) u.pending
change_waiting change Msix u v = with_waiting u u.function.waiting (set u.pending (v / 8) (change (byte u.pending (v / 8)) (v % 8)))

-- N, or 2^Capable
unfoldable pub vector_count : Mode → Shape → ℕ
vector_count Pin s = 0
vector_count Msi s = msi_vectors s
vector_count Msix s = s.msix.vectors

-- the open waiting vectors of the mechanism m, the lowest first
unfoldable pub owed : Mode → Shape → Endpoint → List ℕ
owed m s u = keep (λ v. is_open m s (registers u) v && waits m u v) (count 0 (vector_count m s))
