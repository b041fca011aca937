-- A shift of 1 is the power of 2; all other bits of the byte are kept. Assumes nothing.
use mathlib.Core.Path.{ap}
use Prim.Native.Nat.{◌/◌, ◌%◌}
use native.Mathlib.Omega.{arith}
use lib.ListN.{set}
use borrow.Author.Tests.{eq-eqb, ne_eqb}
use Rattle.words.specs.Bits.{set_bit}
use Rattle.words.proofs.LowestLaws.{one_shl}
use Rattle.words.proofs.BitLaws.{clear-one}
use Rattle.vectors.proofs.waiting.change_pending.Goals as goal

pub returns-then-this-ne0 : goal.returns-then-this-ne0
unfolding set_bit
returns-then-this-ne0 g c =
    rw (ne_eqb g.row.SET 0 c.if-this-ne0.true, one_shl 8 (c.args.v.0 % 8) (omega arith))

pub returns-else-this-ne0 : goal.returns-else-this-ne0
returns-else-this-ne0 g c =
    let a = c.args in
    rw (eq-eqb g.row.SET 0 c.if-this-ne0.false, one_shl 8 (a.v.0 % 8) (omega arith))
    (ap (set a.pending.now (a.v.0 / 8)) (clear-one 8 _ _ (omega arith) (c.items_fit _).fits))
