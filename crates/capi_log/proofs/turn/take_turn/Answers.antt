-- A record that stands whole is performed where it stands; else no record is due, or the one that the player holds is performed. Assumes nothing.
use mathlib.Core.Path.{refl, sym, ap, ◌∙◌}
use borrow.Author.Rules.{rules}
use Rattle.capi_log.specs.Crossing.{player_bytes}
use Rattle.capi_log.proofs.TurnFor.{at-once-room, turned_at_once, turned_more, turned_wrong, turned_due, done_turned}
use Rattle.capi_log.proofs.turn.take_turn.Goals as goal

pub record_in-requires : goal.record_in-requires
record_in-requires c = at-once-room _ _ _ (sym c.in-Some.ensures)

pub returns-in-Some : goal.returns-in-Some
returns-in-Some c =
    done_turned _ _ _ c.done.ensures _ _ _ _ _ _ _
    (turned_at_once _ _ _ _ _ _ _ (sym c.in-Some.ensures) (search rules) _ c.record_in.ensures _ c.perform-answer.ensures _ c.put_after.ensures)

pub returns-in-More : goal.returns-in-More
returns-in-More c =
    turned_more _ _ _ _ _ _ _ c.player_of.ensures c.advance-next.result c.advance-next.ensures c.in-More.is _ c.put_player.ensures

pub returns-in-Whole : goal.returns-in-Whole
returns-in-Whole c =
    done_turned _ _ _ c.done-in-Whole.ensures _ _ _ _ _ _ _
    (turned_due _ _ _ _ _ _ _ c.player_of.ensures c.advance-next.result c.advance-next.ensures c.in-Whole.is
    _ c.held_record.ensures _ c.perform-answer-in-Whole.ensures _ (c.put_player-in-Whole.ensures ∙ ap player_bytes c.onward.ensures) _ refl)

pub returns-in-Wrong : goal.returns-in-Wrong
returns-in-Wrong c =
    turned_wrong _ _ _ _ _ _ _ c.player_of.ensures c.advance-next.result c.advance-next.ensures c.in-Wrong.is _ c.put_player-in-Wrong.ensures
