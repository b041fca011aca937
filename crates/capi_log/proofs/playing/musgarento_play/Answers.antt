-- 60 where the bytes are no card's or no player's; else a call of the player that they hold, its numbers told. Assumes nothing.
use mathlib.Core.Path.{sym, ap, ◌∙◌}
use mathlib.Core.List.{List}
use Prim.Native.Nat.{ℕ}
use Rattle.capi_log.specs.Crossing.{played}
use Rattle.capi_log.proofs.CrossingFor.{card-length, other_player, no_card, no_player, told_ended, told_stopped}
use Rattle.capi_log.proofs.playing.musgarento_play.Goals as goal

pub returns-then-not-is_card : goal.returns-then-not-is_card
returns-then-not-is_card c = no_card _ _ _ _ _ _ (sym c.is_card.ensures ∙ c.if-not-is_card.true)

pub returns-in_default : goal.returns-in_default
returns-in_default c =
    no_player _ _ _ _ _ _ (sym c.is_card.ensures ∙ c.if-not-is_card.false) (sym (other_player _ c.in_default.ensures.cases))

pub returns-then-not-is_player : goal.returns-then-not-is_player
returns-then-not-is_player c =
    let a = c.args in
    no_player _ _ _ _ _ _ (sym c.is_card.ensures ∙ c.if-not-is_card.false) (sym c.is_player.ensures ∙ c.if-not-is_player.true)
    ∙ ap (λ (l : List ℕ). played a.card.now a.table.now a.pending.now l a.log.now a.out.now) c.in-Some.ensures.cases.same

pub take_turn-played-requires : goal.take_turn-played-requires
take_turn-played-requires c = card-length _ (sym c.is_card.ensures ∙ c.if-not-is_card.false)

pub returns-in-Ok : goal.returns-in-Ok
returns-in-Ok c =
    let a = c.args in
    told_ended _ _ _ _ _ _ (sym c.is_card.ensures ∙ c.if-not-is_card.false) (sym c.is_player.ensures ∙ c.if-not-is_player.false)
    _ _ _ _ _ _ _ _ c.in-Ok.is c.take_turn-played.ensures _ _ _ c.tell.ensures
    ∙ ap (λ (l : List ℕ). played a.card.now a.table.now a.pending.now l a.log.now a.out.now) c.in-Some.ensures.cases.same

pub returns-in-Err : goal.returns-in-Err
returns-in-Err c =
    let a = c.args in
    told_stopped _ _ _ _ _ _ (sym c.is_card.ensures ∙ c.if-not-is_card.false) (sym c.is_player.ensures ∙ c.if-not-is_player.false)
    _ _ _ _ _ _ _ _ c.in-Err.is c.take_turn-played.ensures
    ∙ ap (λ (l : List ℕ). played a.card.now a.table.now a.pending.now l a.log.now a.out.now) c.in-Some.ensures.cases.same
