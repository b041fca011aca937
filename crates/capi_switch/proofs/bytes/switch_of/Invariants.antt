-- The ports below place k are those in the bytes. Assumes nothing.
use Rattle.std.proofs.Common.{◌≡◌, ℕ, ◌+◌, ◌<◌, drop, get_or, length}
use Rattle.words.specs.Bytes.{byte}
use Rattle.switch.specs.Switches.{idle, port_of}
use Rattle.capi_switch.specs.Crossing.{wires_in}
use Rattle.capi_switch.proofs.bytes.switch_of.Given as goal

abbrev pub invariant-loop-k : goal.invariant-loop-k
invariant-loop-k l =
    (length l.ports ≡ 8) × (l.wires-items ≡ drop 2 l.b) × ((j : ℕ) → j < l.k → get_or l.ports j idle ≡ port_of (wires_in (byte l.b (2 + j))))
