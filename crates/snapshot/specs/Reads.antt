-- What the checks of a restore find in an image, but for that of the lent buffers. Assumes nothing.
use Rattle.std.specs.Prelude.{◌≡◌, true, List, ℕ, ◌≤◌, length, take, Result, MatchResult}
use Rattle.words.specs.Lists.{same}
use Rattle.words.specs.Bytes.{word16}
use Rattle.model.specs.declared.Card.{Card}
use Rattle.model.specs.declared.refusal.Refusal.{Refusal}
use Rattle.model.specs.Refusals.{number_of}
use Rattle.model.specs.Shape.{shape_of, table_bytes}
use Rattle.model.specs.World.{card_of}
use Rattle.model.specs.Image.{mark, world_in, is_saved, restore_refusal}
use Rattle.snapshot.specs.declared.held.Held.{Held}

-- an image that some sound card saves: the card that it holds, and the length of its table
pub record Saved (l : List ℕ) (card : Card) (n : ℕ) : Type 0 where
  pub long : 294 ≤ length l
  pub image : (same (take 3 l) mark ≡ true) × (word16 l 3 ≡ 1)
  pub saved : is_saved l ≡ true
  pub is_card : card ≡ card_of (world_in l)
  pub is_length : n ≡ table_bytes (shape_of card.function.config)

-- it is such an image, or refused whatever is lent
abbrev pub Reads : List ℕ → Result Held Refusal → Type 0
Reads l r = MatchResult r (λ h. Saved l h.card h.table) (λ why. (t p : ℕ) → restore_refusal l t p ≡ number_of why)
