-- The message of a vector from its parts. Assumes nothing.
use mathlib.Core.Path.{◌≡◌, refl, sym}
use mathlib.Core.Bool.{true, false}
use mathlib.Core.List.{List}
use Prim.Native.Nat.{ℕ, ◌+◌, ◌*◌}
use lib.ListN.{length}
use Rattle.words.specs.Bytes.{word16, word32}
use Rattle.words.proofs.BoolLaws.{both}
use Rattle.model.specs.declared.Form.{Form}
use Rattle.model.specs.declared.Mode.TheVariants.{Msi}
use Rattle.model.specs.declared.Shape.{Shape}
use Rattle.model.specs.World.{Registers}
use Rattle.model.specs.Packets.{message, message_size, message_of, entry_message, msi_upper, data_extended, msi_data}
use Rattle.model.specs.Shape.{form_of}
use Rattle.model.specs.Vectors.{msi_control_bit}
use Rattle.model.proofs.Vectors.PacketLaws.{message-length}
use Rattle.vectors.specs.Messages.{msi_base}

-- by the form
pub no_upper : (s : Shape) (r : Registers) → s.msi.wide ≡ false → 0 ≡ msi_upper s r
unfolding msi_upper
no_upper s r e = rw e

pub has_upper : (s : Shape) (r : Registers) → s.msi.wide ≡ true → word32 r.config (s.msi.at + 8) ≡ msi_upper s r
unfolding msi_upper
has_upper s r e = rw e

-- without control bit 9, and with it
pub not_extended : (s : Shape) (r : Registers) → s.msi.extended ≡ false → false ≡ data_extended s r
unfolding data_extended
not_extended s r e = rw e

pub is_extended : (s : Shape) (r : Registers) → s.msi.extended ≡ true → msi_control_bit s r 10 ≡ data_extended s r
unfolding data_extended
is_extended s r e = rw e

-- all 32 bits of the data, and its lower half
module _ (s : Shape) (f : Form) (e : f ≡ form_of s) (r : Registers) where
  pub all_data : true ≡ data_extended s r → word32 r.config (s.msi.at + f.message) ≡ msi_data s r
  unfolding msi_data
  all_data q = rw (← q, ← e)

  pub low_data : false ≡ data_extended s r → word16 r.config (s.msi.at + f.message) ≡ msi_data s r
  unfolding msi_data
  low_data q = rw (← q, ← e)

-- 32-bit data has control bit 9
pub extended-capable : (s : Shape) (r : Registers) → true ≡ data_extended s r → s.msi.extended ≡ true
unfolding data_extended
extended-capable s r q = (both s.msi.extended (msi_control_bit s r 10) (sym q)).0

-- the data of vector v is that of vector 0 and v
pub base_message : (s : Shape) (r : Registers) (requester v : ℕ)
    → message requester (msi_base s r).upper (msi_base s r).address ((msi_base s r).value + v) ≡ message_of Msi s requester r v
unfolding msi_base message_of
base_message s r requester v = refl

-- of an entry of the MSI-X table
pub entry_length : (requester : ℕ) (table : List ℕ) (v : ℕ) → length (entry_message requester table v) ≡ message_size (word32 table (16 * v + 4))
unfolding entry_message
entry_length requester table v = message-length requester (word32 table (16 * v + 4)) (word32 table (16 * v)) (word32 table (16 * v + 8))
