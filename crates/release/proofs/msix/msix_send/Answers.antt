-- Each turn releases one word. Assumes nothing.
use native.Mathlib.Omega.{arith}
use lib.ListN.{length-take, length-drop}
use borrow.Author.Rules.{rules}
use Rattle.release.proofs.Releases.{releasing_all, releasing_room, releasing_fits, releasing_turn, releasing_done}
use Rattle.release.proofs.msix.msix_send.Goals as goal

pub loop-at-init : goal.loop-at-init
loop-at-init c = releasing_all _ _ _ _ c.requires.0

pub release_word-sent-requires : goal.release_word-sent-requires
release_word-sent-requires c =
    let l = c.loop-at in
    let room = releasing_room _ _ _ _ _ _ _ _ l.invariant c.loop-at-test.true in
    (l.invariant.lent, room, simp (length-take, length-drop) (omega (arith, releasing_fits _ _ _ _ _ _ _ _ c.requires.1 l.invariant room)))

pub loop-at-preserved : goal.loop-at-preserved
loop-at-preserved c =
    let l = c.loop-at in
    releasing_turn _ _ _ _ l.out l.pending l.sent l.at _ _ _ c.requires.1 c.loop-at-test.true l.invariant c.release_word-sent.ensures (search rules)

pub returns : goal.returns
returns c = releasing_done _ _ _ _ _ _ _ _ c.loop-at.invariant c.loop-at-test.false
