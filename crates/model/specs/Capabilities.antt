-- The capability list of document 01, "Starting a card". Assumes nothing.
use Rattle.std.specs.Prelude.{Bool, true, false, cond, List, [], ◌∷◌, ℕ, zero, suc, ◌+◌, ◌*◌, ◌/◌, ltb, eqb}
use Rattle.std.proofs.Math.Option.{Option, none, some}
use Rattle.words.specs.Lists.{keep}
use Rattle.words.specs.Bits.{bit}
use Rattle.words.specs.Bytes.{byte}

-- a pointer without its low two bits
unfoldable pub pointer : ℕ → ℕ
pointer p = p / 4 * 4

-- what a pointer gives: 0 ends the list; 04h to 3Ch breaks it; else a capability stands there, and `rest` follows it.
-- A list is the places of its capabilities in order; a broken one is none
unfoldable pub walk_step : (ends low : Bool) → ℕ → Option (List ℕ) → Option (List ℕ)
walk_step true low a rest = some []
walk_step false true a rest = none
walk_step false false a none = none
walk_step false false a (some l) = some (a ∷ l)

-- the walk from a pointer on, with room for n capabilities: one more breaks the list
unfoldable pub walk : List ℕ → ℕ → ℕ → Option (List ℕ)
walk c zero p = walk_step (eqb (pointer p) 0) (ltb (pointer p) 64) (pointer p) none
walk c (suc n) p =
    let rest : Option (List ℕ) = walk c n (byte c (pointer p + 1)) in
    walk_step (eqb (pointer p) 0) (ltb (pointer p) 64) (pointer p) rest

-- Status bit 4 says that there is a list; its first pointer is byte 34h
unfoldable pub capabilities : List ℕ → Option (List ℕ)
capabilities c = cond (bit (byte c 6) 4) (walk c 48 (byte c 0x34)) (some [])

unfoldable pub broken : Option (List ℕ) → Bool
broken none = true
broken (some l) = false

unfoldable pub listed : Option (List ℕ) → List ℕ
listed none = []
listed (some l) = l

-- the places of the capabilities with an ID
unfoldable pub with_id : List ℕ → List ℕ → ℕ → List ℕ
with_id c places id = keep (λ a. eqb (byte c a) id) places
