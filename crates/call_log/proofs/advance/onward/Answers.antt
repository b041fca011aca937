use mathlib.Core.Path.{sym, ◌∙◌}
use Rattle.call_log.proofs.PlayerLaws.{onward_again, onward-next}
use Rattle.call_log.proofs.advance.onward.Goals as goal

pub returns-then-not-lacks_room : goal.returns-then-not-lacks_room
returns-then-not-lacks_room c =
    c.between.ensures ∙ onward-next _ _ (sym c.lacks_room.ensures ∙ c.if-not-lacks_room.true)

pub returns : goal.returns
returns c =
    onward_again _ _ (sym c.lacks_room.ensures ∙ c.if-not-lacks_room.false)
