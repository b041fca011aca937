-- From the code's parts to what is told of a packet, one law for each way out. Assumes nothing.
use mathlib.Core.Path.{◌≡◌, sym, ap, ◌∙◌}
use mathlib.Core.List.{List}
use Prim.Native.Nat.{ℕ, ◌+◌, ◌*◌, ◌%◌, ◌≤◌}
use native.Mathlib.Omega.{arith}
use lib.Dec.{eqb}
use lib.ListN.{length, take}
use lib.Seq.{length-take-le}
use borrow.Author.Tests.{eq-eqb, ne_eqb}
use Rattle.words.proofs.BoolLaws.{by_test}
use Rattle.words.specs.Bytes.{byte}
use Rattle.tlp.specs.declared.decode.Message as Message
use Rattle.std.specs.Prelude.{Option}
use Rattle.tlp.specs.declared.decode.Packet.{Packet}
use Rattle.tlp.specs.Decoded.{decoded, first_length}
use Rattle.capi_query.specs.declared.packets.Fields.{Fields}
use Rattle.capi_query.specs.Fields.{fields, no_packet, message_fields, fields_of, first_fields}

-- ---- a message

module _ (count : ℕ) (m : Message.Message) where
  pub message_unaligned : (m.address % 4 ≡ 0 → ⊥) → no_packet ≡ message_fields count m
  unfolding message_fields
  message_unaligned n = rw (ne_eqb (m.address % 4) 0 n)

  pub message-told : m.address % 4 ≡ 0 → (upper address : ℕ) → upper ≡ m.upper → address ≡ m.address
      → fields 0 count 1 m.requester (upper * 4294967296 + address) m.value 0 0 ≡ message_fields count m
  unfolding message_fields
  message-told e upper address u a = rw (eq-eqb (m.address % 4) 0 e, u, a)

-- ---- the first of some packets

-- its length is at most all
pub first-within : (l : List ℕ) → first_length l ≤ length l
unfolding first_length
first-within l = by_test (eqb (byte l 0) 0x60) (λ q. rw q (omega arith)) (λ q. rw q (omega arith))

pub first_part : (l : List ℕ) (n : ℕ) → n ≡ first_length l → n ≡ length (take n l)
first_part l n e = sym (length-take-le n l (omega (arith, e, first-within l)))

pub first-told : (l : List ℕ) (n : ℕ) (p : Option Packet) (r : Fields) → n ≡ first_length l → p ≡ decoded (take n l) → r ≡ fields_of n p → r ≡ first_fields l
unfolding first_fields
first-told l n p r e d q = q ∙ ap (fields_of n) d ∙ ap (λ (k : ℕ). fields_of k (decoded (take k l))) e
