-- A card's bytes and an image's, how many there are, and what they hold. Assumes nothing.
use mathlib.Core.Path.{◌≡◌, refl, ap, ◌∙◌}
use mathlib.Core.List.{List, [], ◌∷◌, ◌++◌}
use Prim.Native.Nat.{ℕ, ◌+◌, ◌*◌}
use native.Mathlib.Omega.{arith}
use lib.ListN.{length, drop, length-append}
use Rattle.words.specs.Lists.{join}
use Rattle.words.specs.Bytes.{bytes_of, word32, words32}
use Rattle.words.proofs.ByteLaws.{length_join32, word_drop}
use Rattle.model.specs.declared.Card.{Card}
use Rattle.model.specs.World.{world_of}
use Rattle.model.specs.Image.{mark, flags, card_bytes, image_of}
use Rattle.image.specs.Layout.{number_bytes, image_size}

-- ---- a card's bytes

pub card_parts : (card : Card) (table pending : List ℕ)
    → card_bytes (world_of card table pending) ≡ number_bytes card ++ join (bytes_of 4) card.function.sizes ++ card.function.config
unfolding card_bytes flags number_bytes
card_parts card table pending = refl

-- the lent buffers are no part of them
pub card_alone : (card : Card) (table pending : List ℕ) → card_bytes (world_of card table pending) ≡ card_bytes (world_of card [] [])
unfolding card_bytes flags
card_alone card table pending = refl

pub number-length : (card : Card) → length (number_bytes card) ≡ 9
unfolding number_bytes bytes_of
number-length card = refl

pub sizes-length : (z : List ℕ) → length z ≡ 6 → length (join (bytes_of 4) z) ≡ 24
sizes-length z h = length_join32 z ∙ ap (λ (n : ℕ). 4 * n) h

-- with as many sizes and configuration bytes as the type has
pub card-length : (card : Card) (table pending : List ℕ) → length card.function.sizes ≡ 6 → length card.function.config ≡ 256
    → length (card_bytes (world_of card table pending)) ≡ 289
card-length card table pending z c =
    rw (card_parts card table pending) (simp length-append (omega (arith, number-length card, sizes-length card.function.sizes z)))

pub start-length : length (mark ++ bytes_of 2 1) ≡ 5
unfolding mark bytes_of
start-length = refl

pub image-size : (card : Card) (table pending : List ℕ) → length card.function.sizes ≡ 6 → length card.function.config ≡ 256
    → length (image_of (world_of card table pending)) ≡ image_size (length table) (length pending)
unfolding image_of
image-size card table pending z c =
    simp length-append (omega (arith, simp length-append at start-length, card-length card table pending z c))

-- ---- what they hold

-- the six sizes from place `at` on
pub six_sizes : (s : List ℕ) (at : ℕ)
    → words32 6 (drop at s) ≡ word32 s at ∷ word32 s (at + 4) ∷ word32 s (at + 8) ∷ word32 s (at + 12) ∷ word32 s (at + 16) ∷ word32 s (at + 20) ∷ []
unfolding words32
six_sizes s at = let e : at + 0 ≡ at = omega arith in simp (word_drop, e)
