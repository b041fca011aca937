-- Bytes are those of the card that they hold exactly if no flag bit above bit 1 is set. Assumes nothing.
use mathlib.Core.Path.{◌≡◌, refl, sym, ap, ◌∙◌}
use mathlib.Core.List.{List, [], ◌∷◌, ◌++◌, append-nil}
use Prim.Native.Nat.{ℕ, zero, suc, ◌≤◌}
use native.Mathlib.Omega.{arith}
use lib.Dec.{ltb}
use lib.ListN.{length, take, drop, drop_of_length-le}
use lib.Seq.{take-nil, drop-nil}
use Rattle.words.specs.Lists.{same}
use Rattle.words.specs.Bytes.{byte, number, part, word16, word32, bytes_of, Bytes}
use Rattle.model.specs.declared.Card.{Card}
use Rattle.model.specs.Shape.{shape_of, table_bytes}
use Rattle.model.specs.World.{world_of, card_of}
use Rattle.model.specs.Image.{mark, flags, card_bytes, image_of, function_in, world_in, function_from, card_in}
use Rattle.model.proofs.Image.ImageBack.{image_same}

alone : (x t p : List ℕ) → t ≡ [] → p ≡ [] → x ++ t ++ p ≡ x
alone x t p d e = rw (d, e, append-nil x, append-nil x)

module _ (l : List ℕ) (b : Bytes l) (n : length l ≡ 289) where
  -- the image with these bytes and no buffers
  abbrev m : List ℕ
  m = 0x49 ∷ 0x52 ∷ 0x51 ∷ 1 ∷ 0 ∷ l

  bytes : Bytes m
  bytes zero = omega arith
  bytes (suc zero) = omega arith
  bytes (suc (suc zero)) = omega arith
  bytes (suc (suc (suc zero))) = omega arith
  bytes (suc (suc (suc (suc zero)))) = omega arith
  bytes (suc (suc (suc (suc (suc i))))) = b i

  marked : take 3 m ≡ mark
  unfolding mark
  marked = refl

  version : word16 m 3 ≡ 1
  unfolding word16 number
  version = refl

  held : card_of (world_in m) ≡ card_in l
  unfolding world_in card_in function_from part word16 word32 number
  held = refl

  no_buffers : drop 294 m ≡ []
  no_buffers = let h : length l ≤ 289 = omega arith in drop_of_length-le l h

  saved : same (image_of (world_in m)) m ≡ same (card_bytes (world_in m)) l
  unfolding image_of mark bytes_of same world_in
  saved =
      let k : ℕ = table_bytes (shape_of (function_in m).config) in
      ap (λ (x : List ℕ). same x l)
      (alone (card_bytes (world_in m)) (take k (drop 294 m)) (drop k (drop 294 m)) (ap (take k) no_buffers ∙ take-nil k) (ap (drop k) no_buffers ∙ drop-nil k))

  pub card-same : (table pending : List ℕ) → same (card_bytes (world_of (card_in l) table pending)) l ≡ ltb (byte l 0) 4
  unfolding card_bytes flags
  card-same table pending =
      ap (λ (c : Card). same (card_bytes (world_of c table pending)) l) (sym held) ∙ sym saved
      ∙ image_same m bytes (omega (arith, n)) marked version
