-- One bit of the word; no vector is open at 32 or above. Assumes nothing.
use mathlib.Core.Path.{sym}
use Rattle.vectors.specs.Given.{regs}
use Rattle.vectors.proofs.MsiLaws.{open_below}
use Rattle.vectors.proofs.msi.msi_is_open.Goals as goal

pub returns-then-n-ge32 : goal.returns-then-n-ge32
returns-then-n-ge32 c = let a = c.args in λ t. sym (open_below a.s (regs a.c.now t) a.v.0 c.requires.0.capable c.if-n-ge32.true)
