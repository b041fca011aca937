-- The bytes of a player are those of the player that they hold. Assumes nothing.
use mathlib.Core.Path.{◌≡◌, refl, sym, ap, ◌∙◌}
use mathlib.Core.Bool.{true}
use mathlib.Core.List.{List, ◌∷◌, ◌++◌}
use Prim.Native.Nat.{ℕ, ◌<◌}
use native.Mathlib.Nat.{mod-eq_of_lt}
use native.Mathlib.Omega.{arith}
use lib.Dec.{ltb, eqb}
use lib.ListN.{length, drop, length-drop}
use lib.Seq.{drop-cons, take_all}
use borrow.Author.Tests.{eqb-true, ltb-true}
use Rattle.words.specs.Lists.{count, all}
use Rattle.words.specs.Bytes.{byte, part, word64, bytes_of, Bytes}
use Rattle.words.proofs.BoolLaws.{both}
use Rattle.words.proofs.ListLaws.{all-below}
use Rattle.words.proofs.ByteLaws.{bytes-number, part-next}
use Rattle.capi_log.specs.Crossing.{stage_byte, stage_of, player_bytes, player_in, is_player}
use Rattle.capi_log.proofs.CrossingFor.{player-length}

stage_kept : (b : ℕ) → b < 4 → stage_byte (stage_of b) ≡ b
unfolding stage_byte stage_of all count
stage_kept b h = eqb-true (stage_byte (stage_of b)) b (all-below (λ x. eqb (stage_byte (stage_of x)) x) 4 b refl h)

stage_small : (l : List ℕ) → is_player l ≡ true → byte l 0 < 4
unfolding is_player
stage_small l e = ltb-true (byte l 0) 4 (both (eqb (length l) 25) (ltb (byte l 0) 4) e).1

-- the record's bytes and the number
behind-two : (l : List ℕ) → Bytes l → length l ≡ 25 → part 2 15 l ++ bytes_of 8 (word64 l 17) ≡ drop 2 l
unfolding word64 part
behind-two l b n =
    ap (λ (x : List ℕ). part 2 15 l ++ x) (bytes-number l b 17 8 (omega (arith, n)) ∙ take_all 8 (drop 17 l) (omega (arith, length-drop 17 l, n)))
    ∙ part-next l 2 15

pub first_two : (l : List ℕ) → length l ≡ 25 → byte l 0 ∷ byte l 1 ∷ drop 2 l ≡ l
first_two l n = ap (λ (x : List ℕ). byte l 0 ∷ x) (sym (drop-cons l 1 0 (omega (arith, n)))) ∙ sym (drop-cons l 0 0 (omega (arith, n)))

-- A player that is handed back as it was has the bytes that it was handed in with
pub player-kept : (l : List ℕ) → Bytes l → is_player l ≡ true → player_bytes (player_in l) ≡ l
unfolding player_bytes player_in
player-kept l b e =
    let n : length l ≡ 25 = player-length l e in
    (λ i.
    stage_kept (byte l 0) (stage_small l e) i
    ∷ mod-eq_of_lt (b 1) i
    ∷ behind-two l b n i)
    ∙ first_two l n
