-- The level of the wire by its small state, and the packet that a change of it owes. Assumes nothing.
use Rattle.std.specs.Prelude.{Bool, cond, List, [], ℕ, Option, None, Some}
use Rattle.std.specs.Bool.{beq}
use Rattle.model.specs.declared.Mode.{Mode}
use Rattle.model.specs.Packets.{wire_message}
use Rattle.model.specs.declared.Shape.{Shape}
use Rattle.model.specs.World.{Registers}
use Rattle.model.specs.Vectors.{mode_of, command_bit}
use Rattle.model.specs.Release.{pin_number, level_due}
use Rattle.wire.specs.declared.Wiring.{Wiring}
use Rattle.wire.specs.declared.Wired.{Wired}

-- the level that the wire should have
abbrev pub due_of : Wiring → Bool
due_of w = level_due w.line w.mode w.pin w.disabled

-- the level that the packet owed tells, if one is owed
abbrev pub Owed : Type 0
Owed = Option Bool

-- the packet of a change of level
unfoldable pub owed_of : (before level : Bool) → Owed
owed_of before level = cond (beq before level) None (Some level)

abbrev pub wiring : Bool → Bool → Mode → ℕ → Bool → Wiring
wiring line wire mode pin disabled = record { line = line; wire = wire; mode = mode; pin = pin; disabled = disabled }

-- by the registers, of a card with this line and this wire
abbrev pub wiring_of : Shape → (line wire : Bool) → Registers → Wiring
wiring_of s line wire r = wiring line wire (mode_of s r) (pin_number r) (command_bit r 10)

abbrev pub with_level : Wiring → Bool → Wired
with_level w level = record { wiring = wiring w.line level w.mode w.pin w.disabled; owed = owed_of w.wire level }

abbrev pub with_line : Wiring → Bool → Wired
with_line w level =
    let next : Wiring = wiring level w.wire w.mode w.pin w.disabled in
    with_level next (due_of next)

abbrev pub with_mode : Wiring → Mode → Bool → Wired
with_mode w mode disabled =
    let next : Wiring = wiring w.line w.wire mode w.pin disabled in
    with_level next (due_of next)

unfoldable pub bytes_owed : Owed → (requester pin : ℕ) → List ℕ
bytes_owed None requester pin = []
bytes_owed (Some level) requester pin = wire_message requester pin level

unfoldable pub size_of : Owed → ℕ
size_of None = 0
size_of (Some level) = 16
