-- MSI vectors granted. Assumes nothing.
use Prim.Native.Nat.{◌+◌, ◌-◌, ◌*◌, ◌/◌, ◌^◌, ◌≤◌, ◌<◌}
use native.Mathlib.Omega.{arith}
use lib.Pow.{pow_mono}
use Rattle.model.specs.declared.Shape.{Shape}
use Rattle.model.specs.World.{Registers}
use Rattle.model.specs.Vectors.{granted}
use Rattle.model.specs.Packets.{msi_data}
use Rattle.model.proofs.Vectors.EventLaws.{granted-le, granted_pos}
use Rattle.model.proofs.MessageData.{bounded}

-- Capable is at most 5
pub granted-small : (s : Shape) (r : Registers) → s.msi.capable ≤ 5 → granted s r ≤ 32
granted-small s r h = omega (arith, granted-le s r, pow_mono {i = s.msi.capable} {j = 5} h)

-- each vector that is granted can be added to the data with its low bits 0
pub granted-room : (s : Shape) (r : Registers) → msi_data s r < 2 ^ 32 → msi_data s r / granted s r * granted s r + granted s r ≤ 2 ^ 32
granted-room s r h = let p = granted_pos s r in omega (arith, bounded s r (granted s r - 1) (omega arith) 32 (omega arith) h)
