-- Nothing where MSI-X cannot send. Assumes nothing.
use mathlib.Core.Path.{sym, ◌∙◌}
use Rattle.endpoint.proofs.SweepFor.{msix-room, msix-sent, none-sent, off_bytes, off_swept}
use Rattle.endpoint.proofs.sweep.msix_send.Goals as goal

pub msix_send-count-requires : goal.msix_send-count-requires
msix_send-count-requires c =
    (c.requires.1, msix-room _ _ _ _ _ (sym (c.msix_enabled.ensures _) ∙ c.if-msix_enabled.true) c.requires.2 c.requires.4)

pub returns-then-msix_enabled : goal.returns-then-msix_enabled
returns-then-msix_enabled c =
    msix-sent _ _ _ _ _ _ (sym (c.msix_enabled.ensures _) ∙ c.if-msix_enabled.true) c.requires.2 c.msix_send-count.ensures

pub returns : goal.returns
returns c =
    let off = sym (c.msix_enabled.ensures _) ∙ c.if-msix_enabled.false in
    none-sent _ _ _ _ (off_bytes _ _ off) (off_swept _ _ off)
