-- The bytes of a player between two records. Assumes nothing.
use mathlib.Core.Path.{◌≡◌, sym, ap, ◌∙◌}
use mathlib.Core.Bool.{true, ◌&&◌}
use mathlib.Core.List.{List, [], ◌∷◌, ◌++◌}
use Prim.Native.Nat.{ℕ, zero, suc, ◌+◌, ◌*◌, ◌<◌}
use native.Mathlib.Omega.{arith}
use lib.Dec.{eqb}
use lib.ListN.{length, take, drop, length-drop}
use lib.Seq.{get_or-take, length-take-le}
use borrow.Author.Tests.{eqb-true}
use Rattle.words.specs.Lists.{count}
use Rattle.words.specs.Bytes.{byte, part, number, word16, word64, bytes_of}
use Rattle.words.specs.Writers.{put_at}
use Rattle.words.proofs.BoolLaws.{both}
use Rattle.words.proofs.ByteLaws.{length-bytes_of}
use Rattle.words.proofs.ListLaws.{map-listed}
use Rattle.words.proofs.PutLaws.{over-all}
use Rattle.call_log.specs.declared.Stage.TheVariants.{Records}
use Rattle.call_log.specs.Players.{player_of, no_part, between}
use Rattle.capi_log.specs.Crossing.{stage_byte, stage_of, player_bytes, player_in, is_between}
use Rattle.capi_log.proofs.BytesExact.{first_two}

first : (x y : ℕ) → x + 256 * y ≡ 0 → x ≡ 0
first x y e = omega (arith, e)

rest : (x y : ℕ) → x + 256 * y ≡ 0 → y ≡ 0
rest x y e = omega (arith, e)

-- the bytes of a number that is 0
zero-bytes : (f : ℕ → ℕ) (i n : ℕ) → number f i n ≡ 0 → (k : ℕ) → k < n → f (k + i) ≡ 0
unfolding number
zero-bytes f i zero e k h = absurd (omega (arith, h))
zero-bytes f i (suc n) e zero h = ap f (omega arith) ∙ first (f i) (number f (suc i) n) e
zero-bytes f i (suc n) e (suc k) h = ap f (omega arith) ∙ zero-bytes f (suc i) n (rest (f i) (number f (suc i) n) e) k (omega (arith, h))

module _ (l : List ℕ) (n : length l ≡ 25) (e : is_between l ≡ true) where
  tests : (word16 l 0 ≡ 1) × (word64 l 2 ≡ 0) × (word64 l 9 ≡ 0)
  unfolding is_between
  tests =
      let a = both (eqb (word16 l 0) 1 && eqb (word64 l 2) 0) (eqb (word64 l 9) 0) e in
      let b = both (eqb (word16 l 0) 1) (eqb (word64 l 2) 0) a.0 in
      (eqb-true (word16 l 0) 1 b.0, eqb-true (word64 l 2) 0 b.1, eqb-true (word64 l 9) 0 a.1)

  stage : (byte l 0 ≡ 1) × (byte l 1 ≡ 0)
  unfolding word16 number
  stage = let h = tests.0 in (omega (arith, h), omega (arith, h))

  low : (k : ℕ) → k < 8 → byte l (k + 2) ≡ 0
  unfolding word64
  low k h = zero-bytes (byte l) 2 8 tests.1 k h

  high : (k : ℕ) → k < 8 → byte l (k + 9) ≡ 0
  unfolding word64
  high k h = zero-bytes (byte l) 9 8 tests.2 k h

  front : take 17 l ≡ 1 ∷ 0 ∷ no_part
  unfolding count
  front =
      sym (map-listed (byte l) 0 (take 17 l) 17 (length-take-le 17 l (omega (arith, n))) (λ k h. sym (get_or-take 17 l k 0 h)))
      ∙ (λ i.
      stage.0 i
      ∷ stage.1 i
      ∷ low 0 (omega arith) i
      ∷ low 1 (omega arith) i
      ∷ low 2 (omega arith) i
      ∷ low 3 (omega arith) i
      ∷ low 4 (omega arith) i
      ∷ low 5 (omega arith) i
      ∷ low 6 (omega arith) i
      ∷ low 7 (omega arith) i
      ∷ high 1 (omega arith) i
      ∷ high 2 (omega arith) i
      ∷ high 3 (omega arith) i
      ∷ high 4 (omega arith) i
      ∷ high 5 (omega arith) i
      ∷ high 6 (omega arith) i
      ∷ high 7 (omega arith) i
      ∷ [])

  -- with another number they are those of a player between two records
  pub number_alone : (k : ℕ) → put_at 17 (bytes_of 8 k) l ≡ player_bytes (between k)
  unfolding player_bytes stage_byte
  number_alone k =
      ap (λ (x : List ℕ). take 17 l ++ x) (over-all (bytes_of 8 k) (drop 17 l) (omega (arith, length-bytes_of 8 k, length-drop 17 l, n)))
      ∙ ap (λ (x : List ℕ). x ++ bytes_of 8 k) front

  -- they hold that player
  pub player-between : player_in l ≡ between (word64 l 17)
  unfolding player_in stage_of part
  player-between = λ i. player_of (stage_is i) (stage.1 i) (part-is i) (word64 l 17)
    where
      stage_is : stage_of (byte l 0) ≡ Records
      stage_is = ap stage_of stage.0

      part-is : part 2 15 l ≡ no_part
      part-is = ap (λ (x : List ℕ). drop 2 (take 17 x)) (first_two l n) ∙ ap (drop 2) front
