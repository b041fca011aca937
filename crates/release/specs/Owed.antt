-- What the open waiting vectors owe: their numbers, their packets, and the pending array without their bits. Assumes nothing.
use Rattle.std.specs.Prelude.{Bool, true, false, not, ◌&&◌, List, [], ◌≡◌, ℕ, ◌+◌, ◌*◌, ◌/◌, ◌≤◌, ◌<◌, length}
use Rattle.words.specs.Lists.{count, keep, join}
use Rattle.words.specs.Bits.{bit}
use Rattle.words.specs.Writers.{Wrote}
use Rattle.model.specs.declared.Mode.TheVariants.{Msix}
use Rattle.model.specs.World.{endpoint_of, zero_function}
use Rattle.model.specs.Vectors.{entry_masked, pending_bit}
use Rattle.model.specs.Packets.{message, entry_message}
use Rattle.model.specs.Release.{clear_all}

-- the set bits of a number of k bits, the lowest first
abbrev pub set_bits : ℕ → ℕ → List ℕ
set_bits k w = keep (bit w) (count 0 k)

-- ---- MSI: of a word of vectors, each sends the data base + its number

abbrev pub msi_packets : (requester upper address base owed : ℕ) → List ℕ
msi_packets requester upper address base owed = join (λ v. message requester upper address (base + v)) (set_bits 32 owed)

-- ---- MSI-X, where it is in force, Function Mask 0 and Command bit 2 set

-- N, by the length of the table
abbrev pub entries : List ℕ → ℕ
entries table = length table / 16

-- vector v is not masked and waits
unfoldable pub owes : List ℕ → List ℕ → ℕ → Bool
owes table pending v = not (entry_masked table v) && pending_bit pending v

unfoldable pub owed_entries : List ℕ → List ℕ → ℕ → List ℕ
owed_entries table pending n = keep (owes table pending) (count 0 n)

-- of the whole table
abbrev pub owed_all : List ℕ → List ℕ → List ℕ
owed_all table pending = owed_entries table pending (entries table)

abbrev pub entry_packets : (requester : ℕ) → List ℕ → List ℕ → List ℕ
entry_packets requester table vs = join (entry_message requester table) vs

-- a pending array with the bits of vectors vs cleared
unfoldable pub clear_pending : List ℕ → List ℕ → List ℕ
clear_pending pending vs = (clear_all Msix (endpoint_of zero_function [] pending) vs).pending

-- the packets of vectors vs are written, and their bits cleared
pub record Released (requester : ℕ) (table vs p o : List ℕ) (r : ℕ) (p' o' : List ℕ) : Type 0 where
  pub sent : Wrote (entry_packets requester table vs) o r o'
  pub cleared : p' ≡ clear_pending p vs

-- what the code asks of the lent buffers
pub record Lent (table pending : List ℕ) : Type 0 where
  pub words : length pending ≡ 8 * ((entries table + 63) / 64)
  pub beyond : (v : ℕ) → entries table ≤ v → pending_bit pending v ≡ false

-- ---- a word of 64 vectors, from vector base on

-- each set bit has an entry
abbrev pub Backed : List ℕ → ℕ → ℕ → Type 0
Backed table base w = (j : ℕ) → bit w j ≡ true → base + j < entries table

-- those whose entry is not masked
abbrev pub Unmasked : List ℕ → ℕ → ℕ → ℕ → Type 0
Unmasked table base w r = (j : ℕ) → bit r j ≡ (bit w j && not (entry_masked table (base + j)))

-- of the vectors from byte `at` of the pending array on, those that a word owes
abbrev pub owed_word : List ℕ → List ℕ → ℕ → List ℕ
owed_word table pending at = keep (owes table pending) (count (8 * at) 64)

-- the packets of its set bits
abbrev pub word_packets : (requester : ℕ) → List ℕ → ℕ → ℕ → List ℕ
word_packets requester table base w = join (λ j. entry_message requester table (base + j)) (set_bits 64 w)
