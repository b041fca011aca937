-- One law for each way out. Assumes nothing.
use mathlib.Core.Path.{sym, ◌∙◌}
use Rattle.bar_access.proofs.EntryFor.{owed_force, owed_other, owed-idle, owed-masked, owed-open}
use Rattle.bar_access.proofs.entry.is_owed.Goals as goal

pub returns-then-not-is_msix : goal.returns-then-not-is_msix
returns-then-not-is_msix c =
    λ u t same. owed_other _ _ c.requires.0 t c.args.pending.now u _ (sym c.is_msix.ensures ∙ c.if-not-is_msix.true)

pub returns-then-not-waits : goal.returns-then-not-waits
returns-then-not-waits c =
    λ u t same. owed-idle _ _ c.requires.0 t _ u _ (sym (c.waits.ensures u) ∙ c.if-not-waits.true)

pub returns-then-entry_masked : goal.returns-then-entry_masked
returns-then-entry_masked c =
    λ u t same. owed-masked _ _ c.requires.0 t c.args.pending.now u _ _ same (sym c.entry_masked.ensures ∙ c.if-entry_masked.true)

pub msix_enabled-requires : goal.msix_enabled-requires
msix_enabled-requires c =
    (c.requires.0.fits, owed_force _ _ c.requires.0 (sym c.is_msix.ensures ∙ c.if-not-is_msix.false))

pub returns : goal.returns
returns c =
    λ u t same. c.msix_enabled.ensures t
    ∙ owed-open _ _ c.requires.0 t _ u _ _ same (sym (c.waits.ensures u) ∙ c.if-not-waits.false)
    (sym c.entry_masked.ensures ∙ c.if-entry_masked.false) c.requires.1
