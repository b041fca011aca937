-- Document 01, "Starting a card": the checks 10 to 17, and the function that a start gives. Assumes nothing.
use Rattle.std.specs.Prelude.{Bool, false, not, ◌&&◌, ◌||◌, List, [], ◌∷◌, ℕ, ◌+◌, ◌%◌, ltb, eqb, length, replicate}
use Rattle.words.specs.Lists.{all, first_of, overlap}
use Rattle.words.specs.Bytes.{byte}
use Rattle.model.specs.declared.Region.{Region}
use Rattle.model.specs.declared.Shape.{Shape}
use Rattle.model.specs.Capabilities.{capabilities, listed, broken, with_id}
use Rattle.model.specs.Shape.{form_of, msi_present, msix_present, shape_of, table_bytes, pending_bytes}
use Rattle.model.specs.Registers.{started_config, started_table}
use Rattle.model.specs.World.{Endpoint, function_of, endpoint_of}

-- what a start is given; of the two lent buffers, their lengths
pub record Given : Type 0 where
  pub config : List ℕ
  pub sizes : List ℕ
  pub events : ℕ
  pub requester : ℕ
  pub table_length : ℕ
  pub pending_length : ℕ

abbrev pub given : (config sizes : List ℕ) → (events requester table_length pending_length : ℕ) → Given
given config sizes events requester table_length pending_length =
    record { config = config; sizes = sizes; events = events; requester = requester; table_length = table_length; pending_length = pending_length }

-- 10: byte 0Eh low seven bits not 0, or pin (3Dh) above 4
unfoldable pub bad_header : List ℕ → Bool
bad_header c = not (eqb (byte c 0x0e % 128) 0) || ltb 4 (byte c 0x3d)

-- 12: ID 05h or 11h listed twice
unfoldable pub twice : List ℕ → List ℕ → Bool
twice c places = ltb 1 (length (with_id c places 0x05)) || ltb 1 (length (with_id c places 0x11))

-- a structure of n bytes at a runs past byte FFh, or has another listed header's first two bytes inside it
unfoldable pub misplaced : List ℕ → ℕ → ℕ → Bool
misplaced places a n = ltb 256 (a + n) || not (all (λ o. eqb o a || not (overlap o 2 a n)) places)

-- 13: Multiple Message Capable above 5; or a structure misplaced, or overlapping the other one
unfoldable pub bad_structures : List ℕ → Shape → Bool
bad_structures places s =
    (msi_present s && (ltb 5 s.msi.capable || misplaced places s.msi.at (form_of s).size))
    || (msix_present s && misplaced places s.msix.at 12)
    || (msi_present s && msix_present s && overlap s.msi.at (form_of s).size s.msix.at 12)

-- n bytes in a BAR: a BIR above 5, or past the BAR's size
unfoldable pub outside : List ℕ → Region → ℕ → Bool
outside sizes r n = ltb 5 r.bar || ltb (byte sizes r.bar) (r.at + n)

-- 14: table or pending array outside, or the two overlapping in one BAR
unfoldable pub bad_regions : List ℕ → Shape → Bool
bad_regions sizes s =
    let table : Region = s.msix.table in
    let pending : Region = s.msix.pending in
    msix_present s
    && (outside sizes table (table_bytes s)
    || outside sizes pending (pending_bytes s)
    || (eqb table.bar pending.bar && overlap table.at (table_bytes s) pending.at (pending_bytes s)))

-- 15: E not 1 to 2,048, or MSI-X present and N not E
unfoldable pub bad_events : ℕ → Shape → Bool
bad_events e s = eqb e 0 || ltb 2048 e || (msix_present s && not (eqb s.msix.vectors e))

-- 16: requester's low three bits not 0; nor is a number of more than 16 bits a requester ID
unfoldable pub bad_requester : ℕ → Bool
bad_requester r = not (eqb (r % 8) 0) || ltb 65535 r

-- 17: table buffer not 16N bytes, or pending buffer not 8 x (N/64 rounded up) bytes
unfoldable pub bad_buffers : Shape → (table_length pending_length : ℕ) → Bool
bad_buffers s table_length pending_length = not (eqb table_length (table_bytes s)) || not (eqb pending_length (pending_bytes s))

-- the refusal of a start, 0 if there is none
unfoldable pub start_refusal : Given → ℕ
start_refusal g =
    let c : List ℕ = g.config in
    let places : List ℕ = listed (capabilities c) in
    let s : Shape = shape_of c in
    first_of
    ((10, bad_header c)
    ∷ (11, broken (capabilities c))
    ∷ (12, twice c places)
    ∷ (13, bad_structures places s)
    ∷ (14, bad_regions g.sizes s)
    ∷ (15, bad_events g.events s)
    ∷ (16, bad_requester g.requester)
    ∷ (17, bad_buffers s g.table_length g.pending_length)
    ∷ [])

-- the function that a start gives, and a reset of one with this configuration: line low, nothing waiting
abbrev pub started : (config sizes : List ℕ) → (events requester : ℕ) → Endpoint
started config sizes events requester =
    let s : Shape = shape_of config in
    endpoint_of (function_of (started_config s config) sizes events requester false 0) (started_table s.msix.vectors) (replicate (pending_bytes s) 0)
