-- Nothing where MSI-X cannot send. Assumes nothing.
use mathlib.Core.Path.{sym, ap, ◌∙◌}
use lib.ListN.{length}
use Rattle.endpoint.proofs.SweepFor.{msix-bytes, off_bytes}
use Rattle.endpoint.proofs.sweep.msix_size.Goals as goal

pub returns-then-msix_enabled : goal.returns-then-msix_enabled
returns-then-msix_enabled c =
    c.msix_size.ensures _
    ∙ sym (ap length (msix-bytes _ _ (sym (c.msix_enabled.ensures _) ∙ c.if-msix_enabled.true) c.requires.2))

pub returns : goal.returns
returns c = ap length (off_bytes _ _ (sym (c.msix_enabled.ensures _) ∙ c.if-msix_enabled.false))
