-- The message of MSI vector 0, from which every vector's differs in the low bits of the data alone. Assumes nothing.
use Rattle.std.specs.Prelude.{◌*◌, ◌/◌}
use Rattle.model.specs.declared.Shape.{Shape}
use Rattle.model.specs.World.{Registers}
use Rattle.model.specs.Vectors.{granted}
use Rattle.model.specs.Packets.{msi_address, msi_upper, msi_data}
use Rattle.vectors.specs.declared.message.Message.{Message}

unfoldable pub msi_base : Shape → Registers → Message
msi_base s r = record { upper = msi_upper s r; address = msi_address s r; value = msi_data s r / granted s r * granted s r }
