-- Sent, merged or held: one law for each. Assumes nothing.
use mathlib.Core.Path.{sym, ap, ◌∙◌}
use Rattle.model.specs.World.{world_of}
use Rattle.model.proofs.Vectors.SweepLaws.{open_parts}
use Rattle.vectors.specs.Given.{regs}
use Rattle.card.specs.Running.{card_with}
use Rattle.interrupt.specs.Raises.{fated}
use Rattle.interrupt.proofs.EventFor.{raised_open, raised-merged, raised-held}
use Rattle.interrupt.proofs.event.raise.Goals as goal

pub send-requires : goal.send-requires
send-requires c =
    let a = c.args in
    let opened = sym c.is_open.ensures ∙ c.if-is_open.true in
    (c.requires.0, c.requires.1.table, (open_parts a.k.mode a.k.shape (regs a.card.now.function.config a.table.now) a.v.0 opened).enable)

pub returns-then-is_open : goal.returns-then-is_open
returns-then-is_open c =
    λ z e l y.
    let f = c.args.card.now.function in
    c.send.ensures c.args.pending.now z e l y
    ∙ raised_open (card_with f.config z e f.requester l f.waiting y) _ _ _ _ _ _ _ c.is_open.ensures c.if-is_open.true

pub returns-then-waits : goal.returns-then-waits
returns-then-waits c =
    λ z e l y.
    let f = c.args.card.now.function in
    let card = card_with f.config z e f.requester l f.waiting y in
    raised-merged card _ _ _ _ _ _ _ c.is_open.ensures _ (c.waits.ensures (world_of card c.args.table.now c.args.pending.now).endpoint) _
    c.if-is_open.false c.if-waits.true (ap (fated card) c.quiet.ensures)

pub returns : goal.returns
returns c =
    λ z e l y.
    let f = c.args.card.now.function in
    let card = card_with f.config z e f.requester l f.waiting y in
    let u = (world_of card c.args.table.now c.args.pending.now).endpoint in
    raised-held card _ _ _ _ _ _ _ c.is_open.ensures _ (c.waits.ensures u) _ _ _
    c.if-is_open.false c.if-waits.false (c.change_bit-held.ensures u) (ap (fated card) c.quiet-2.ensures)
