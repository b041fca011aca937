-- One case for each stage. Assumes nothing.
use mathlib.Core.Path.{sym}
use borrow.Author.Rules.{rules}
use borrow.Author.Tests.{ne_eqb}
use Rattle.call_log.specs.Players.{is_playing}
use Rattle.call_log.proofs.PlayerLaws.{more_to_take, all_taken}
use Rattle.call_log.proofs.advance.is_playing.Goals as goal

pub returns-in-Header : goal.returns-in-Header
unfolding is_playing
returns-in-Header c = rw c.in-Header.is

pub returns-then-taken-eq0 : goal.returns-then-taken-eq0
unfolding is_playing
returns-then-taken-eq0 c = rw (c.in-Records.is, c.if-taken-eq0.true)

pub returns-else-taken-eq0 : goal.returns-else-taken-eq0
unfolding is_playing
returns-else-taken-eq0 c =
    rw (c.in-Records.is, ne_eqb _ 0 c.if-taken-eq0.false) (more_to_take _ _ _ _ _ c.size_of.ensures (λ n p. search rules) c.is_some_and.ensures)

pub returns-then-eq : goal.returns-then-eq
unfolding is_playing
returns-then-eq c =
    rw (c.in-Again.is, sym (all_taken _ c.args.player.taken _ c.size_of-in-Again.ensures), sym c.eq.ensures, c.if-eq.true) c.fits_later.ensures

pub returns-else-eq : goal.returns-else-eq
unfolding is_playing
returns-else-eq c =
    rw (c.in-Again.is, sym (all_taken _ c.args.player.taken _ c.size_of-in-Again.ensures), sym c.eq.ensures, c.if-eq.false)

pub returns-in-Broken : goal.returns-in-Broken
unfolding is_playing
returns-in-Broken c = rw c.in-Broken.is
