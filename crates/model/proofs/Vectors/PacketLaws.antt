-- The lengths of packets. Assumes nothing.
use mathlib.Core.Path.{◌≡◌}
use mathlib.Core.Bool.{Bool, true, false, cond, beq}
use mathlib.Core.List.{List, [], ◌∷◌, ◌++◌}
use Prim.Native.Nat.{ℕ, ◌≤◌}
use native.Mathlib.Omega.{arith}
use lib.Dec.{eqb}
use lib.ListN.{length, length-append}
use Rattle.words.specs.Bytes.{bytes_of, bytes_high}
use Rattle.words.proofs.BoolLaws.{cond_elim}
use Rattle.words.proofs.ByteLaws.{length-bytes_of, length-bytes_high}
use Rattle.model.specs.declared.Mode.{Mode}
use Rattle.model.specs.declared.Mode.TheVariants.{Pin, Msi, Msix}
use Rattle.model.specs.declared.Shape.{Shape}
use Rattle.model.specs.World.{Registers}
use Rattle.model.specs.Packets.{message, message_size, wire_message, message_of, entry_message}
use Rattle.model.specs.Release.{wire_change, pin_number}

pub message-length : (requester upper address value : ℕ) → length (message requester upper address value) ≡ message_size upper
unfolding message message_size
message-length requester upper address value = go (eqb upper 0)
  where
    go : (b : Bool)
        → length
        ((cond b 0x40 0x60 ∷ 0 ∷ 0 ∷ 1 ∷ []) ++ bytes_high 2 requester ++ (0 ∷ 0x0f ∷ []) ++ cond b [] (bytes_high 4 upper) ++ bytes_high 4 address ++ bytes_of 4 value)
        ≡ cond b 16 20
    go true = simp (length-append, length-bytes_high, length-bytes_of)
    go false = simp (length-append, length-bytes_high, length-bytes_of)

pub wire-length : (requester pin : ℕ) (active : Bool) → length (wire_message requester pin active) ≡ 16
unfolding wire_message
wire-length requester pin active = simp (length-append, length-bytes_high)

pub size-le : (upper : ℕ) → message_size upper ≤ 20
unfolding message_size
size-le upper = cond_elim (λ (n : ℕ). n ≤ 20) (eqb upper 0) (λ _. omega arith) (λ _. omega arith)

message-le : (requester upper address value : ℕ) → length (message requester upper address value) ≤ 20
message-le requester upper address value =
    rw (message-length requester upper address value) (size-le upper)

pub vector_le : (m : Mode) (s : Shape) (requester : ℕ) (r : Registers) (v : ℕ) → length (message_of m s requester r v) ≤ 20
unfolding message_of entry_message
vector_le Pin s requester r v = omega arith
vector_le Msi s requester r v = message-le requester _ _ _
vector_le Msix s requester r v = message-le requester _ _ _

pub change_le : (requester : ℕ) (r : Registers) (before after : Bool) → length (wire_change requester r before after) ≤ 16
unfolding wire_change
change_le requester r before after =
    cond_elim (λ (l : List ℕ). length l ≤ 16) (beq before after) (λ _. omega arith) (λ _. omega (arith, wire-length requester (pin_number r) after))
