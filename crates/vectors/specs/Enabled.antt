-- When MSI-X can send at all. Assumes nothing.
use Rattle.std.specs.Prelude.{Bool, not, ◌&&◌}
use Rattle.model.specs.declared.Mode.TheVariants.{Msix}
use Rattle.model.specs.declared.Shape.{Shape}
use Rattle.model.specs.World.{Registers}
use Rattle.model.specs.Vectors.{in_force, msix_control_bit, command_bit}

-- MSI-X is in force, Function Mask 0, Command bit 2 set
unfoldable pub msix_enabled : Shape → Registers → Bool
msix_enabled s r = in_force Msix s r && not (msix_control_bit s r 14) && command_bit r 2
