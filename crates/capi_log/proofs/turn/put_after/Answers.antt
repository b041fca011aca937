use mathlib.Core.Path.{sym, ap, ◌∙◌}
use Prim.Native.Nat.{ℕ}
use borrow.Author.Rules.{rules}
use Rattle.call_log.specs.declared.Scanned.{Scanned}
use Rattle.call_log.specs.Players.{between, advanced}
use Rattle.call_log.specs.Plays.{onward}
use Rattle.capi_log.specs.Crossing.{player_bytes}
use Rattle.capi_log.proofs.TurnFor.{some_size, at-once-next, after-counted}
use Rattle.capi_log.proofs.turn.put_after.Goals as goal

pub returns-then-not-lacks_room : goal.returns-then-not-lacks_room
returns-then-not-lacks_room c =
    let s = some_size _ c.requires in
    c.put_counted.ensures
    ∙ after-counted _ _ s.0 s.1 (search rules) _ (sym c.lacks_room.ensures ∙ c.if-not-lacks_room.true)

pub returns : goal.returns
returns c =
    let answer = c.args.answer in
    let log = c.args.log.now in
    let s = some_size _ c.requires in
    let number = ap (λ (n : ℕ). advanced (between n) log) c.word64.ensures in
    let next = c.advance_between-next.ensures ∙ number ∙ at-once-next _ _ s.0 s.1 (search rules) in
    c.put_player.ensures ∙ ap player_bytes (c.onward.ensures ∙ ap (λ (x : Scanned). onward x.player answer) next)
