-- One case for each mechanism. Assumes nothing.
use mathlib.Core.Path.{sym}
use Rattle.vectors.specs.Given.{regs}
use Rattle.vectors.proofs.OpenLaws.{pin_shut}
use Rattle.vectors.proofs.open.is_open.Goals as goal

pub returns-in-Pin : goal.returns-in-Pin
returns-in-Pin c =
    let a = c.args in
    rw c.in-Pin.is (sym (pin_shut a.k.shape (regs a.c.now a.table.now) a.v.0))
