-- What a refused function of the logs' interface leaves: card, table, pending array and output as they were; 60 is for bytes that are no card's or no
-- player's, and then the player stays too. Assumes nothing.
use mathlib.Core.Path.{◌≡◌, refl, sym, ap, ap₂, ◌∙◌}
use mathlib.Core.Bool.{true, false, ◌&&◌, true≢false}
use mathlib.Core.List.{List}
use mathlib.Core.Logic.{◌↔◌, ◌⊎◌, inl, inr}
use mathlib.Core.Option.{Option, none}
use Prim.Native.Nat.{ℕ}
use native.Mathlib.Omega.{arith}
use lib.ListN.{length}
use Rattle.words.specs.Bytes.{Bytes}
use Rattle.words.specs.Writers.{over}
use Rattle.words.proofs.BoolLaws.{cond_elim}
use Rattle.model.specs.World.{World, world_of}
use Rattle.model.specs.Image.{card_in}
use Rattle.call_log.specs.Players.{is_playing}
use Rattle.call_log.specs.Plays.{Performed, Played, play_of}
use Rattle.call_log.specs.Cards.{on_card}
use Rattle.call_log.proofs.OneCall.{play-refused, stands}
use Rattle.player.specs.Plays.{heard_of, ended_by, packets, play_call}
use Rattle.capi_log.specs.Crossing.{is_card, is_player, player_in, player_bytes, Crossed, handed, ended_code, refusal_in, answer_in, card_after, back, played}
use Rattle.capi_log.proofs.CrossingFor.{through}
use Rattle.capi_log.proofs.BytesExact.{player-kept}

module _ (card table pending player log out : List ℕ) where
  abbrev w : World
  w = world_of (card_in card) table pending

  abbrev r : Played World
  r = play_of (on_card out) (player_in player) w log

  -- what is so of a call on the card and the player that the bytes hold, and of 60, is so of the function
  read_elim : (P : Crossed → Type 0) → ((is_card card && is_player player) ≡ true → P (back card (heard_of r out)))
      → ((is_card card && is_player player) ≡ false → P (handed 60 card table pending player out 0 0 0 0 0)) → P (played card table pending player log out)
  unfolding played play_call
  read_elim P f g = cond_elim P (is_card card && is_player player) f g

  -- The function returns 60 exactly if the bytes lent to it are no card's or no player's
  pub sixty_exact : ((played card table pending player log out).returned ≡ 60) ↔ ((is_card card && is_player player) ≡ false)
  sixty_exact = (
    read_elim (λ (x : Crossed). x.returned ≡ 60 → (is_card card && is_player player) ≡ false) (λ _ e. absurd (other (play-refused (on_card out) (player_in player) w log) e))
        (λ e _. e),
    λ e. read_elim (λ (x : Crossed). x.returned ≡ 60) (λ t. absurd (true≢false (sym t ∙ e))) (λ _. refl),
  )
    where
      other : (r.refusal ≡ 0) ⊎ ((r.refusal ≡ 30) × (r.world ≡ w) × (r.result ≡ none)) → r.refusal ≡ 60 → ⊥
      other (inl z) e = omega (arith, z, e)
      other (inr z) e = omega (arith, z.0, e)

  -- a call that performed no record, and left the card
  nothing_made : r.world ≡ w → r.result ≡ none → back card (heard_of r out) ≡ handed r.refusal card table pending (player_bytes r.player) out r.taken 0 0 0 0
  nothing_made q n =
      ap₂ (λ (v : World) (x : Option (Performed World)).
      handed r.refusal (card_after card (ended_by x) v) v.endpoint.table v.endpoint.pending (player_bytes r.player) (over (packets x) out) r.taken
      (ended_code (ended_by x)) (refusal_in (ended_by x)) (answer_in (ended_by x)) (length (packets x))) q n

  -- A refused function changes no byte of card, table, pending array and output, and no record's call was made
  pub refused-play : ((played card table pending player log out).returned ≡ 0 → ⊥)
      → let x : Crossed = played card table pending player log out in
      x ≡ handed x.returned card table pending x.player out x.taken 0 0 0 0
  refused-play =
      read_elim (λ (x : Crossed). (x.returned ≡ 0 → ⊥) → x ≡ handed x.returned card table pending x.player out x.taken 0 0 0 0)
      (λ _ n. by_way n (play-refused (on_card out) (player_in player) w log)) (λ _ _. refl)
    where
      by_way : (r.refusal ≡ 0 → ⊥) → (r.refusal ≡ 0) ⊎ ((r.refusal ≡ 30) × (r.world ≡ w) × (r.result ≡ none))
          → back card (heard_of r out) ≡ handed r.refusal card table pending (player_bytes r.player) out r.taken 0 0 0 0
      by_way n (inl z) = absurd (n z)
      by_way n (inr z) = nothing_made z.1 z.2

  -- "A player that no log leaves behind is answered with 30 and nothing changes", and so is one that met a wrong byte: not a byte of it either
  pub stands_still : is_card card ≡ true → is_player player ≡ true → Bytes player
      → is_playing (player_in player).stage (player_in player).taken (player_in player).part ≡ false
      → played card table pending player log out ≡ handed 30 card table pending player out 0 0 0 0 0
  unfolding play_call
  stands_still c e b n =
      sym (through card table pending player log out c e)
      ∙ ap (λ (x : Played World). back card (heard_of x out)) (stands (on_card out) (player_in player) w log n)
      ∙ ap (λ (l : List ℕ). handed 30 card table pending l out 0 0 0 0 0) (player-kept player b e)
