-- None without MSI; a shift of 1 by at most 5 is the power of 2. Assumes nothing.
use native.Mathlib.Omega.{arith}
use Rattle.words.proofs.LowestLaws.{one_shl}
use Rattle.vectors.proofs.CountLaws.{no-msi, with-msi}
use Rattle.vectors.proofs.count.msi_vectors.Goals as goal

pub returns-then-s-eq0 : goal.returns-then-s-eq0
returns-then-s-eq0 c = no-msi _ c.if-s-eq0.true

pub returns : goal.returns
returns c =
    rw (one_shl 64 c.args.s.msi.capable (omega (arith, c.requires))) (with-msi _ c.if-s-eq0.false)
