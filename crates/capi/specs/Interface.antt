-- The numbers of the interface, each beside the one that the definitions give. Assumes nothing.
use Rattle.std.specs.Prelude.{List, [], ◌∷◌, ℕ, ◌-◌, replicate}
use Rattle.model.specs.Calls.{reset, call, start, restore}
use Rattle.capi.specs.Crossing.{unread}

-- n bytes of a card, with these flags
abbrev card_of : (n flags : ℕ) → List ℕ
card_of n flags = flags ∷ replicate (n - 1) 0

abbrev of_call : (n flags : ℕ) → ℕ
of_call n flags = unread (card_of n flags) (call (reset []))

abbrev of_start : (n config sizes : ℕ) → ℕ
of_start n config sizes = unread (card_of n 0xff) (start (replicate config 0) (replicate sizes 0) 1 0)

abbrev of_restore : (n flags : ℕ) → ℕ
of_restore n flags = unread (card_of n flags) (restore [])

abbrev pub interface : List (ℕ × ℕ)
interface =
    -- 289 bytes
    (0, of_call 289 0)
    ∷ (60, of_call 288 0)
    ∷ (60, of_call 290 0)
    ∷ (0, of_restore 289 0)
    ∷ (60, of_restore 288 0)
    ∷ (60, of_restore 290 0)
    -- flags 0 to 3; 60 before 1
    ∷ (0, of_call 289 3)
    ∷ (1, of_call 289 4)
    ∷ (1, of_call 289 0x80)
    ∷ (60, of_call 288 4)
    -- a restore takes any flags
    ∷ (0, of_restore 289 0xff)
    -- a start, too; 256 configuration bytes and six sizes
    ∷ (0, of_start 289 256 6)
    ∷ (60, of_start 288 256 6)
    ∷ (60, of_start 290 256 6)
    ∷ (60, of_start 289 255 6)
    ∷ (60, of_start 289 257 6)
    ∷ (60, of_start 289 256 5)
    ∷ (60, of_start 289 256 7)
    ∷ []
