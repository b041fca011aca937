-- The bytes of what is left of the value are still to be written. Assumes nothing.
use Rattle.std.proofs.Common.{◌≡◌, ◌+◌, ◌-◌, length}
use Rattle.words.specs.Bytes.{bytes_of}
use Rattle.model.specs.Registers.{written}
use Rattle.registers.proofs.write.write.Given as goal

abbrev pub invariant-loop-k : goal.invariant-loop-k
invariant-loop-k g l =
    (length l.bytes ≡ length l.initial.bytes)
    × (written (g.M.Masks.masks l.registers) l.bytes l.k (bytes_of (l.at + l.n - l.k) l.left) ≡ written (g.M.Masks.masks l.registers) l.initial.bytes l.at (bytes_of l.n l.value))
