-- The level that the wire should have, by each way to find it, and the packet owed. Assumes nothing.
use mathlib.Core.Path.{◌≡◌, refl, ap}
use mathlib.Core.Bool.{Bool, true, false, not, ◌&&◌}
use Prim.Native.Nat.{ℕ, ◌≤◌}
use native.Mathlib.Omega.{arith}
use lib.Dec.{eqb}
use lib.ListN.{length}
use denote.Enum.Bare.{sameb}
use Rattle.model.specs.contracts.Mode.{the_type}
use Rattle.model.specs.declared.Mode.{Mode}
use Rattle.model.specs.declared.Mode.TheVariants.{Pin, Msi, Msix}
use Rattle.model.specs.declared.Shape.{Shape}
use Rattle.model.specs.World.{Registers}
use Rattle.model.specs.Vectors.{mode_of, command_bit}
use Rattle.model.specs.Release.{is_pin, pin_number, level_due, wire_due, wire_change}
use Rattle.model.proofs.Vectors.PacketLaws.{wire-length}
use Rattle.wire.specs.declared.Wiring.{Wiring}
use Rattle.wire.specs.declared.Wired.{Wired}
use Rattle.std.specs.Prelude.{None, Some}
use Rattle.wire.specs.Wires.{Owed, due_of, owed_of, wiring, wiring_of, with_level, with_line, with_mode, bytes_owed, size_of}

-- ---- the level

-- the derived equality of mechanisms
pub equals_pin : (m : Mode) → sameb the_type m Pin ≡ is_pin m
unfolding is_pin
equals_pin Pin = refl
equals_pin Msi = refl
equals_pin Msix = refl

-- the tests in their order
pub due_by : (w : Wiring) (high raised : Bool) → high ≡ (w.line && is_pin w.mode) → raised ≡ (high && not (eqb w.pin 0)) → (raised && not w.disabled) ≡ due_of w
unfolding level_due
due_by w high raised h r = rw (r, h)

-- ---- the packet owed

pub owed-length : (o : Owed) (requester pin : ℕ) → length (bytes_owed o requester pin) ≡ size_of o
unfolding bytes_owed size_of
owed-length None requester pin = refl
owed-length (Some level) requester pin = wire-length requester pin level

pub size_small : (o : Owed) → size_of o ≤ 16
unfolding size_of
size_small None = omega arith
size_small (Some level) = omega arith

-- ---- the definitions' wire

pub owed_is : (requester : ℕ) (r : Registers) (before level : Bool) → bytes_owed (owed_of before level) requester (pin_number r) ≡ wire_change requester r before level
unfolding owed_of wire_change bytes_owed
owed_is requester r true true = refl
owed_is requester r true false = refl
owed_is requester r false true = refl
owed_is requester r false false = refl

pub wiring_is : (s : Shape) (line wire : Bool) (r : Registers) (m : Mode) (p : ℕ) (d : Bool) → m ≡ mode_of s r → p ≡ pin_number r → d ≡ command_bit r 10
    → wiring line wire m p d ≡ wiring_of s line wire r
wiring_is s line wire r m p d em ep ed = rw (em, ep, ed)

pub due_is : (s : Shape) (line wire : Bool) (r : Registers) → due_of (wiring_of s line wire r) ≡ wire_due s line r
unfolding wire_due
due_is s line wire r = refl

-- the wire goes to the level that it should have: with another level of the line, and with another mechanism and Command bit 10
pub settled-line : (s : Shape) (line wire level : Bool) (r : Registers) → with_line (wiring_of s line wire r) level ≡ with_level (wiring_of s level wire r) (wire_due s level r)
unfolding wire_due
settled-line s line wire level r = refl

pub settled-mode : (v : Wiring) (s : Shape) (line wire : Bool) (r : Registers) (m : Mode) (d : Bool) → v.line ≡ line → v.wire ≡ wire → v.pin ≡ pin_number r
    → m ≡ mode_of s r → d ≡ command_bit r 10 → with_mode v m d ≡ with_level (wiring_of s line wire r) (wire_due s line r)
unfolding wire_due
settled-mode v s line wire r m d el ew ep em ed = rw (el, ew, ep, em, ed)

-- the level, and the packet owed
pub at_level : (v : Wiring) (w : Wired) (level : Bool) → w ≡ with_level v level → (w.wiring.wire ≡ level) × (w.owed ≡ owed_of v.wire level)
at_level v w level q = (ap (λ (x : Wired). x.wiring.wire) q, ap (λ (x : Wired). x.owed) q)
