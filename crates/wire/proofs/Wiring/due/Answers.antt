-- The tests in their order: line, mechanism, pin, Interrupt Disable. Assumes nothing.
use mathlib.Core.Path.{sym, ap, ◌∙◌}
use mathlib.Core.Bool.{Bool, not, ◌&&◌}
use Rattle.wire.proofs.WireLaws.{equals_pin, due_by}
use Rattle.wire.proofs.Wiring.due.Goals.{then-self, else-self, then-eq, else-eq}
use Rattle.wire.proofs.Wiring.due.Goals as goal

pub returns-then-self-ne0 : goal.returns-then-self-ne0
returns-then-self-ne0 c =
    sym (ap (λ (b : Bool). b && not c.args.self.disabled) c.if-self-ne0.true)
    ∙ due_by c.args.self c.if-self.value c.if-eq.value
    (elim c.if-self.branch [ then-self w ↦ rw w.if-self.true (w.value-is ∙ w.eq.ensures ∙ equals_pin _) | else-self w ↦ rw w.if-self.false (w.value-is ∙ w.if-self.false) ])
    (elim c.if-eq.branch [ then-eq w ↦ rw w.if-eq.true w.value-is | else-eq w ↦ rw w.if-eq.false (w.value-is ∙ w.if-eq.false) ])

pub returns-else-self-ne0 : goal.returns-else-self-ne0
returns-else-self-ne0 c =
    c.if-self-ne0.false
    ∙ sym (ap (λ (b : Bool). b && not c.args.self.disabled) c.if-self-ne0.false)
    ∙ due_by c.args.self c.if-self.value c.if-eq.value
    (elim c.if-self.branch [ then-self w ↦ rw w.if-self.true (w.value-is ∙ w.eq.ensures ∙ equals_pin _) | else-self w ↦ rw w.if-self.false (w.value-is ∙ w.if-self.false) ])
    (elim c.if-eq.branch [ then-eq w ↦ rw w.if-eq.true w.value-is | else-eq w ↦ rw w.if-eq.false (w.value-is ∙ w.if-eq.false) ])
