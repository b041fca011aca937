-- One case for each mechanism; the pin has no vector. Assumes nothing.
use lib.ListN.{length}
use Rattle.vectors.proofs.CountLaws.{pin-not-enabled, enabled-granted, enabled-entry, entry_inside}
use Rattle.vectors.specs.Given.{regs}
use Rattle.vectors.proofs.message.vector_message.Goals as goal

pub msi_message-requires : goal.msi_message-requires
msi_message-requires c =
    let a = c.args in
    let k = c.requires.0 in
    (k.fits, k.form, enabled-granted a.k.shape a.c.now a.table.now a.v.0 (rw c.in-Msi.is at c.requires.2))

pub msix_message-requires : goal.msix_message-requires
msix_message-requires c =
    let a = c.args in
    let r = regs a.c.now a.table.now in
    entry_inside a.k.shape (length a.table.now) a.v.0 (enabled-entry a.k.shape r a.v.0 (rw c.in-Msix.is at c.requires.2))
    c.requires.1

pub returns-in-Pin : goal.returns-in-Pin
returns-in-Pin c =
    let a = c.args in
    absurd (pin-not-enabled a.k.shape (regs a.c.now a.table.now) a.v.0 (rw c.in-Pin.is at c.requires.2))
