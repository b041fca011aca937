-- The bits gathered have those of both masks 0 exactly if the first k entries are clean. Assumes nothing.
use mathlib.Core.Path.{◌≡◌}
use Prim.Native.Nat.{◌-◌, ◌*◌, ◌≤◌}
use lib.Bits.{bit_and, bit_or}
use lib.Dec.{eqb}
use Rattle.words.specs.Lists.{all, count}
use Rattle.model.specs.Registers.{entry_zero}
use Rattle.words.proofs.ZeroBits.{clean}
use Rattle.registers.proofs.table.table_clean.Given as goal

abbrev pub invariant-loop-k : goal.invariant-loop-k
invariant-loop-k l =
    (l.k ≤ l.n) × (eqb (bit_or (bit_and l.low 0x0000000000000003) (bit_and l.high 0xfffffffe00000000)) 0 ≡ all (clean entry_zero l.table) (count 0 (16 * l.k)))

abbrev pub decreases-loop-k : goal.decreases-loop-k
decreases-loop-k l = l.n - l.k
