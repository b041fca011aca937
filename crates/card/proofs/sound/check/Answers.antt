-- The function is not sound, or the level of the wire decides. Assumes nothing.
use Rattle.card.proofs.SoundFor.{check_function, check-level, check-wire}
use Rattle.card.proofs.sound.check.Goals as goal

pub returns-in_default : goal.returns-in_default
returns-in_default c = check_function _ _ _ (c.in_default.ensures c.args.card.now.function.line).0

pub returns-then-card-due : goal.returns-then-card-due
returns-then-card-due c =
    let found = c.in-Ok.ensures c.args.card.now.function.line in
    check-wire _ _ _ _ found.0 found.1 found.2 _ c.wiring-wiring.ensures _ c.due.ensures c.if-card-due.true

pub returns : goal.returns
returns c =
    let found = c.in-Ok.ensures c.args.card.now.function.line in
    check-level _ _ _ _ found.0 found.1 found.2 _ c.wiring-wiring.ensures _ c.due.ensures c.if-card-due.false
