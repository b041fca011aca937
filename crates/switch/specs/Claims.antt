-- What the theorems on a switch speak of. Assumes nothing.
use Rattle.std.specs.Prelude.{◌≡◌, Bool, List, ℕ, ◌%◌, ◌^◌, ◌≤◌, ◌<◌, length}
use Rattle.model.specs.Packets.{message, wire_message}
use Rattle.switch.specs.declared.Switch.{Switch}
use Rattle.switch.specs.Switches.{wires_of}
use Rattle.switch.specs.Calls.{device_of, Switched}

-- what the declared type says of a switch: eight ports of four wires
pub record Shaped (s : Switch) : Type 0 where
  pub ports : length s.ports ≡ 8
  pub wires : (k : ℕ) → length (wires_of s k) ≡ 4

-- what a refused call leaves of the switch that it was given and of its output: everything as it was
pub record Unchanged (s : Switch) (out : List ℕ) (r : Switched) : Type 0 where
  pub switch : r.switch ≡ s
  pub output : r.output ≡ out
  pub count : r.count ≡ 0

-- a single packet in document 01's layouts that a port may hand in: a message write, any requester, address bits 1:0 zero;
-- or a wire packet with device number 0
pub data PortPacket : List ℕ → Type 0 where
  of_message : (requester upper address value : ℕ) → requester < 2 ^ 16 → upper < 2 ^ 32 → address < 2 ^ 32 → value < 2 ^ 32 → address % 4 ≡ 0
      → PortPacket (message requester upper address value)
  of_wire : (requester pin : ℕ) (active : Bool) → requester < 2 ^ 16 → 1 ≤ pin → pin ≤ 4 → device_of requester ≡ 0
      → PortPacket (wire_message requester pin active)
