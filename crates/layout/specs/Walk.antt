-- The walk of the capability list, one place at a time. Assumes nothing.
use Rattle.std.specs.Prelude.{◌≡◌, ◌⊎◌, ◌≤◌, ◌<◌, ◌+◌, List, ℕ, suc, Option, Some, None}
use Rattle.words.specs.Bytes.{byte}
use Rattle.model.specs.Capabilities.{pointer}
use Rattle.layout.specs.Places.{first_pointer}
use Rattle.layout.specs.declared.capability.Places.{Places}

abbrev pub BeginsAt : List ℕ → Places → Type 0
BeginsAt c s = (s.config.now ≡ c) × (s.link ≡ first_pointer c) × (s.left ≡ 48)

-- a place of a capability, and the pointer behind it; or the end of the walk, which stays there
abbrev pub GivesPlace : Places → Option ℕ → Places → Type 0
GivesPlace s None t = (t ≡ s) × ((pointer t.link < 64) ⊎ (t.left ≡ 0))
GivesPlace s (Some at) t =
    (at ≡ pointer s.link) × (64 ≤ at) × (at < 253) × (s.left ≡ suc t.left) × (t.link ≡ byte s.config.now (at + 1)) × (t.config.now ≡ s.config.now)
