-- From the highest byte down: r is the number of the bytes from place i on. Assumes nothing.
use mathlib.Core.Path.{◌≡◌}
use Prim.Native.Nat.{◌+◌, ◌-◌, ◌≤◌}
use Rattle.words.specs.Bytes.{number}
use Rattle.registers.specs.Shown.{config_shown}
use Rattle.registers.proofs.config.config_value.Given as goal

abbrev pub invariant-loop-i : goal.invariant-loop-i
invariant-loop-i l = (l.at ≤ l.i) × (l.r ≡ number (config_shown l.s l.line l.waiting l.c) l.i (l.at + l.n - l.i))
