-- One case for each mechanism. Assumes nothing.
use mathlib.Core.Path.{sym, ◌∙◌}
use Rattle.std.proofs.Common.{rules}
use Rattle.model.specs.World.{endpoint_of, function_of}
use Rattle.endpoint.proofs.SoundParts.{pin-idle, msi-idle, msix-idle, msix_off}
use Rattle.endpoint.proofs.sound.nothing_owed.Goals as goal

pub returns-in-Pin : goal.returns-in-Pin
returns-in-Pin c = λ z e q l. pin-idle _ (endpoint_of (function_of _ z e q l _) c.args.table.now c.args.pending.now) (c.requires.0.mode _ ∙ c.in-Pin.is)

pub msi_owed-requires : goal.msi_owed-requires
msi_owed-requires c = let k = c.requires.0 in (k.fits, k.form, λ t. k.mode t ∙ c.in-Msi.is)

pub returns-in-Msi : goal.returns-in-Msi
returns-in-Msi c =
    λ z e q l.
    msi-idle _ (endpoint_of (function_of _ z e q l _) c.args.table.now c.args.pending.now) _ (c.requires.0.mode _ ∙ c.in-Msi.is)
    (c.msi_owed.ensures z e q l _ _) (search rules)

pub msix_enabled-requires : goal.msix_enabled-requires
msix_enabled-requires c = let k = c.requires.0 in (k.fits, λ t. k.mode t ∙ c.in-Msix.is)

pub none_owed-requires : goal.none_owed-requires
none_owed-requires c = c.requires.1

pub returns-then-msix_enabled : goal.returns-then-msix_enabled
returns-then-msix_enabled c =
    λ z e q l.
    msix-idle _ (endpoint_of (function_of _ z e q l _) c.args.table.now c.args.pending.now) _ (c.requires.0.mode _ ∙ c.in-Msix.is)
    (sym (c.msix_enabled.ensures _) ∙ c.if-msix_enabled.true) c.requires.2 c.none_owed.ensures

pub returns-else-msix_enabled : goal.returns-else-msix_enabled
returns-else-msix_enabled c =
    λ z e q l.
    msix_off _ (endpoint_of (function_of _ z e q l _) c.args.table.now c.args.pending.now) (c.requires.0.mode _ ∙ c.in-Msix.is)
    (sym (c.msix_enabled.ensures _) ∙ c.if-msix_enabled.false)
