-- One law for each way out of the functions that play a log through the interface. Assumes nothing.
use mathlib.Core.Path.{◌≡◌, refl, sym, ap, ◌∙◌}
use mathlib.Core.Bool.{Bool, true, false, not, ◌&&◌}
use mathlib.Core.List.{List, [], ◌∷◌}
use Prim.Native.Nat.{ℕ}
use lib.Dec.{ltb, eqb}
use lib.ListN.{length}
use borrow.Author.Tests.{eq-eqb, ne_eqb, eqb-true}
use Rattle.words.specs.Lists.{first_of}
use Rattle.words.specs.Bytes.{byte}
use Rattle.words.proofs.BoolLaws.{both}
use Rattle.std.specs.Prelude.{Option, Result, Ok, Err}
use Rattle.model.specs.declared.Answer.{Answer}
use Rattle.model.specs.Calls.{Call, call, reset}
use Rattle.capi.specs.Crossing.{unread}
use Rattle.capi_log.specs.declared.turn.Stopped.{Stopped}
use Rattle.capi_log.specs.declared.turn.Turn.{Turn}
use Rattle.capi_log.specs.Crossing.{is_card, is_player, handed, ended_code, refusal_in, answer_in, called_on, played, turned}

-- ---- the bytes of a card, and of a player

two-rows : (a b : Bool) → eqb (first_of ((60, not a) ∷ (1, not b) ∷ [])) 0 ≡ (a && b)
unfolding first_of
two-rows true true = refl
two-rows true false = refl
two-rows false b = refl

-- n is the code's number for bytes that are no card's
pub card_test : (l : List ℕ) (n : ℕ) → ((c : Call) → n ≡ unread l (call c)) → eqb n 0 ≡ is_card l
unfolding unread is_card
card_test l n e = ap (λ (k : ℕ). eqb k 0) (e (reset [])) ∙ two-rows (eqb (length l) 289) (ltb (byte l 0) 4)

pub card-length : (l : List ℕ) → is_card l ≡ true → length l ≡ 289
unfolding is_card
card-length l e = eqb-true (length l) 289 (both (eqb (length l) 289) (ltb (byte l 0) 4) e).0

pub player-length : (l : List ℕ) → is_player l ≡ true → length l ≡ 25
unfolding is_player
player-length l e = eqb-true (length l) 25 (both (eqb (length l) 25) (ltb (byte l 0) 4) e).0

pub other_player : (l : List ℕ) → (length l ≡ 25 → ⊥) → false ≡ is_player l
unfolding is_player
other_player l h = rw (ne_eqb (length l) 25 h)

pub stage_test : (l : List ℕ) → length l ≡ 25 → ltb (byte l 0) 4 ≡ is_player l
unfolding is_player
stage_test l h = rw (eq-eqb (length l) 25 h)

-- ---- what crosses

module _ (card table pending player log out : List ℕ) where
  pub no_card : is_card card ≡ false → handed 60 card table pending player out 0 0 0 0 0 ≡ played card table pending player log out
  unfolding played
  no_card e = rw e

  pub no_player : is_card card ≡ true → is_player player ≡ false → handed 60 card table pending player out 0 0 0 0 0 ≡ played card table pending player log out
  unfolding played
  no_player c e = rw (c, e)

  pub through : is_card card ≡ true → is_player player ≡ true → called_on card table pending player log out ≡ played card table pending player log out
  unfolding played
  through c e = rw (c, e)

  module _ (c : is_card card ≡ true) (p : is_player player ≡ true) (t : Turn) (card' table' pending' player' output' : List ℕ) (count' : ℕ) where
    -- t is what a call on those bytes gave, and e, r and a are the numbers of its record's end
    pub told_ended : (made : Option Answer) → t.ended ≡ Ok made → turned t card' table' pending' player' output' count' ≡ called_on card table pending player log out
        → (e r a : ℕ) → (e ≡ ended_code made) × (r ≡ refusal_in made) × (a ≡ answer_in made)
        → handed 0 card' table' pending' player' output' t.taken e r a count' ≡ played card table pending player log out
    told_ended made is q e r a h =
        (λ i. handed 0 card' table' pending' player' output' t.taken (h.0 i) (h.1 i) (h.2 i) count')
        ∙ ap (λ (x : Result (Option Answer) Stopped). turned (record { taken = t.taken; ended = x }) card' table' pending' player' output' count') (sym is)
        ∙ q ∙ through c p

    -- and it goes on no more
    pub told_stopped : (s : Stopped) → t.ended ≡ Err s → turned t card' table' pending' player' output' count' ≡ called_on card table pending player log out
        → handed 30 card' table' pending' player' output' t.taken 0 0 0 count' ≡ played card table pending player log out
    told_stopped s is q =
        ap (λ (x : Result (Option Answer) Stopped). turned (record { taken = t.taken; ended = x }) card' table' pending' player' output' count') (sym is)
        ∙ q ∙ through c p
