-- An image with the mark and version 1 is the one that its card saves exactly if its flags have no bit above bit 1. Assumes nothing.
use mathlib.Core.Path.{◌≡◌, refl, sym, ap, ◌∙◌}
use mathlib.Core.Bool.{Bool, true, false}
use mathlib.Core.List.{List, [], ◌∷◌, ◌++◌, append_assoc}
use Prim.Native.Nat.{ℕ, ◌+◌, ◌*◌, ◌≤◌, ◌<◌}
use native.Mathlib.Omega.{arith}
use lib.Dec.{ltb, eqb}
use lib.ListN.{length, take, drop, take-append-drop, length-drop}
use lib.Seq.{drop-cons}
use borrow.Author.Tests.{eqb-true, ltb-true, lt-ltb}
use Rattle.words.specs.Lists.{join, same, all, count}
use Rattle.words.specs.Bits.{bit, of_bool}
use Rattle.words.specs.Bytes.{byte, number, word16, word32, words32, bytes_of, part, Bytes}
use Rattle.words.proofs.BoolLaws.{same_test}
use Rattle.words.proofs.ListLaws.{same_true, same_refl, all-below}
use Rattle.words.proofs.ByteLaws.{bytes-number, part-next, join-words, drop-bytes}
use Rattle.model.specs.Shape.{shape_of, table_bytes}
use Rattle.model.specs.Image.{mark, flags, card_bytes, image_of, function_from, world_in}

-- the flags that are written of a flags byte
written-flags : ℕ → ℕ
written-flags b = of_bool (bit b 0) + 2 * of_bool (bit b 1)

flags-small : (b : ℕ) → written-flags b < 4
unfolding written-flags of_bool
flags-small b = go (bit b 0) (bit b 1)
  where
    go : (x y : Bool) → of_bool x + 2 * of_bool y < 4
    go true true = omega arith
    go true false = omega arith
    go false true = omega arith
    go false false = omega arith

flags-back : (b : ℕ) → b < 4 → written-flags b ≡ b
unfolding written-flags of_bool bit all count
flags-back b h = eqb-true (written-flags b) b (all-below (λ b. eqb (written-flags b) b) 4 b refl h)

regroup : (a b : List ℕ) (f : ℕ) (e r w z c t p : List ℕ)
    → a ++ b ++ ((f ∷ []) ++ e ++ r ++ w ++ z ++ c) ++ t ++ p ≡ a ++ (b ++ (f ∷ (e ++ (r ++ (w ++ (z ++ (c ++ (t ++ p))))))))
regroup a b f e r w z c t p = simp append_assoc

module _ (l : List ℕ) (b : Bytes l) (n : 294 ≤ length l) (m : take 3 l ≡ mark) (v : word16 l 3 ≡ 1) where
  abbrev rest : List ℕ
  rest = part 6 2 l ++ (part 8 2 l ++ (part 10 4 l ++ (part 14 24 l ++ (part 38 256 l ++ drop 294 l))))

  behind : rest ≡ drop 6 l
  behind =
      ap (λ (x : List ℕ). part 6 2 l ++ (part 8 2 l ++ (part 10 4 l ++ (part 14 24 l ++ x)))) (part-next l 38 256)
      ∙ ap (λ (x : List ℕ). part 6 2 l ++ (part 8 2 l ++ (part 10 4 l ++ x))) (part-next l 14 24)
      ∙ ap (λ (x : List ℕ). part 6 2 l ++ (part 8 2 l ++ x)) (part-next l 10 4)
      ∙ ap (λ (x : List ℕ). part 6 2 l ++ x) (part-next l 8 2)
      ∙ part-next l 6 2

  version_bytes : bytes_of 2 1 ≡ part 3 2 l
  unfolding word16
  version_bytes = ap (bytes_of 2) (sym v) ∙ bytes-number l b 3 2 (omega arith)

  sizes-bytes : join (bytes_of 4) (words32 6 (drop 14 l)) ≡ part 14 24 l
  unfolding part
  sizes-bytes = join-words 6 (drop 14 l) (drop-bytes 14 l b) (omega (arith, length-drop 14 l))

  -- the image that the card held in l saves
  saved : image_of (world_in l) ≡ take 3 l ++ (part 3 2 l ++ (written-flags (byte l 5) ∷ drop 6 l))
  unfolding image_of card_bytes flags world_in function_from word16 word32 written-flags
  saved =
      let k : ℕ = table_bytes (shape_of (part 38 256 l)) in
      regroup mark (bytes_of 2 1) (of_bool (bit (byte l 5) 0) + 2 * of_bool (bit (byte l 5) 1)) (bytes_of 2 (number (byte l) 6 2))
      (bytes_of 2 (number (byte l) 8 2)) (bytes_of 4 (number (byte l) 10 4)) (join (bytes_of 4) (words32 6 (drop 14 l))) (part 38 256 l)
      (take k (drop 294 l)) (drop k (drop 294 l))
      ∙ rw (← m, version_bytes, bytes-number l b 6 2 (omega arith), bytes-number l b 8 2 (omega arith), bytes-number l b 10 4 (omega arith), sizes-bytes, take-append-drop k (drop 294 l))
      (ap (λ (x : List ℕ). take 3 l ++ (part 3 2 l ++ ((of_bool (bit (byte l 5) 0) + 2 * of_bool (bit (byte l 5) 1)) ∷ x))) behind)

  whole : l ≡ take 3 l ++ (part 3 2 l ++ (byte l 5 ∷ drop 6 l))
  whole =
      sym (take-append-drop 3 l)
      ∙ ap (λ (x : List ℕ). take 3 l ++ x) (sym (part-next l 3 2) ∙ ap (λ (x : List ℕ). part 3 2 l ++ x) (drop-cons l 5 0 (omega arith)))

  fifth : (x : ℕ) (r : List ℕ) → byte (take 3 l ++ (part 3 2 l ++ (x ∷ r))) 5 ≡ x
  unfolding mark bytes_of
  fifth x r = rw (m, ← version_bytes)

  flags-kept : image_of (world_in l) ≡ l → written-flags (byte l 5) ≡ byte l 5
  flags-kept e = sym (fifth (written-flags (byte l 5)) (drop 6 l)) ∙ ap (λ (x : List ℕ). byte x 5) (sym saved ∙ e)

  pub image_same : same (image_of (world_in l)) l ≡ ltb (byte l 5) 4
  image_same =
      same_test (same (image_of (world_in l)) l) (ltb (byte l 5) 4)
      (λ e. lt-ltb (byte l 5) 4 (omega (arith, flags-small (byte l 5), flags-kept (same_true (image_of (world_in l)) l e))))
      (λ e.
      ap (λ (x : List ℕ). same x l)
      (saved ∙ ap (λ (f : ℕ). take 3 l ++ (part 3 2 l ++ (f ∷ drop 6 l))) (flags-back (byte l 5) (ltb-true (byte l 5) 4 e)) ∙ sym whole)
      ∙ same_refl l)
