-- The first of some packets is told with its own fields, and what is told is a packet of document 01: both by the round trip of `tlp`, on the part of
-- the bytes that the first packet's length cuts off. Assumes nothing.
use mathlib.Core.Path.{◌≡◌, refl, sym, ap, ◌∙◌}
use mathlib.Core.Bool.{Bool}
use mathlib.Core.List.{List, ◌++◌}
use mathlib.Core.Logic.{◌↔◌, ◌⊎◌, inl, inr, ⊎_elim}
use Prim.Native.Nat.{ℕ, ◌+◌, ◌*◌, ◌%◌, ◌^◌, ◌≤◌, ◌<◌}
use native.Mathlib.Omega.{arith}
use lib.Dec.{eqb}
use lib.ListN.{length, take, drop, take-append-drop}
use lib.Seq.{take_at}
use borrow.Author.Tests.{eq-eqb, eqb-true}
use Rattle.words.specs.Bits.{of_bool}
use Rattle.words.proofs.BoolLaws.{cond_elim}
use Rattle.model.specs.Packets.{message, message_size, wire_message}
use Rattle.model.proofs.Vectors.PacketLaws.{message-length, wire-length}
use Rattle.std.specs.Prelude.{Option, Some, None}
use Rattle.tlp.specs.declared.decode.Message as Message
use Rattle.tlp.specs.declared.decode.Level.{Level}
use Rattle.tlp.specs.declared.decode.Packet.{Packet}
use Rattle.tlp.specs.Decoded.{decoded, first_length}
use Rattle.tlp.proofs.RoundTrip as RoundTrip
use Rattle.tlp.proofs.RoundTrip.{IsMessage, IsWire, wire_decodes, message_decodes, decoded-message, decoded-wire}
use Rattle.capi_query.specs.declared.packets.Fields.{Fields}
use Rattle.capi_query.specs.Fields.{fields, no_packet, message_fields, wire_fields, fields_of, first_fields}
use Rattle.capi_query.specs.Claims.{Stands, message_first, wire_first}
use Rattle.capi_query.proofs.FieldsFor.{first_part}

-- ---- a packet that stands first, with any bytes behind it

-- of p with its own length first in l, the fields are those that p decodes to
first_decodes : (p rest : List ℕ) (n : ℕ) (x : Option Packet) → first_length (p ++ rest) ≡ n → length p ≡ n → decoded p ≡ x → first_fields (p ++ rest) ≡ fields_of n x
unfolding first_fields
first_decodes p rest n x e k d =
    ap (λ (m : ℕ). fields_of m (decoded (take m (p ++ rest)))) e ∙ ap (fields_of n) (ap decoded (take_at p rest n k) ∙ d)

-- where a message stands first, exactly its fields are told, and its length
pub first-message : (requester upper address value : ℕ) → requester < 2 ^ 16 → upper < 2 ^ 32 → address < 2 ^ 32 → value < 2 ^ 32 → address % 4 ≡ 0
    → (rest : List ℕ)
    → first_fields (message requester upper address value ++ rest) ≡ fields 0 (message_size upper) 1 requester (upper * 2 ^ 32 + address) value 0 0
unfolding fields_of message_fields
first-message requester upper address value r u a v aligned rest =
    first_decodes (message requester upper address value) rest (message_size upper) _ (RoundTrip.first-message requester upper address value rest)
    (message-length requester upper address value) (message_decodes requester upper address value r u a v)
    ∙ rw (eq-eqb (address % 4) 0 aligned)

-- where a wire packet of a pin 1 to 4 stands first, exactly its fields are told, and its length
pub first-wire : (requester pin : ℕ) (active : Bool) → requester < 2 ^ 16 → 1 ≤ pin → pin ≤ 4 → (rest : List ℕ)
    → first_fields (wire_message requester pin active ++ rest) ≡ fields 0 16 2 requester 0 0 pin (of_bool active)
unfolding fields_of wire_fields
first-wire requester pin active r first last rest =
    let small : requester % 65536 ≡ requester = omega arith in
    first_decodes (wire_message requester pin active) rest 16 _ (RoundTrip.first-wire requester pin active rest) (wire-length requester pin active)
    (wire_decodes requester pin active first last)
    ∙ ap (λ (x : ℕ). fields 0 16 2 x 0 0 pin (of_bool active)) small

-- ---- what is told is a packet of document 01

abbrev Either : List ℕ → Fields → Type 0
Either l f = (f ≡ no_packet) ⊎ Stands l f

module _ (l : List ℕ) (n : ℕ) (part : n ≡ length (take n l)) where
  message_stands : (m : Message.Message) → IsMessage (take n l) m → Either l (message_fields n m)
  unfolding message_fields
  message_stands m i =
      let size : n ≡ message_size m.upper =
      part ∙ ap length i.bytes ∙ message-length m.requester m.upper m.address m.value in
      cond_elim (Either l) (eqb (m.address % 4) 0)
      (λ e. inr (rw size
      (message_first m.requester m.upper m.address m.value i.requester i.upper i.address i.value (eqb-true (m.address % 4) 0 e)
      (rw size at i.bytes))))
      (λ _. inl refl)

  wire_stands : (w : Level) → IsWire (take n l) w → Stands l (wire_fields n w)
  unfolding wire_fields
  wire_stands w i =
      let size : n ≡ 16 = part ∙ ap length i.bytes ∙ wire-length w.requester w.pin w.active in
      rw size (wire_first w.requester w.pin w.active i.requester i.first i.last (rw size at i.bytes))

  packet_stands : (x : Option Packet) → decoded (take n l) ≡ x → Either l (fields_of n x)
  unfolding fields_of
  packet_stands (Some (Packet.Message m)) e = message_stands m (decoded-message (take n l) m e)
  packet_stands (Some (Packet.Wire w)) e = inr (wire_stands w (decoded-wire (take n l) w e))
  packet_stands None e = inl refl

-- no packet, or one that stands first
told : (l : List ℕ) → Either l (first_fields l)
unfolding first_fields
told l = packet_stands l (first_length l) (first_part l _ refl) (decoded (take (first_length l) l)) refl

refused_so : (f : Fields) → f ≡ no_packet → f.refusal ≡ 60
refused_so f e = ap (λ (x : Fields). x.refusal) e

-- what is told with 0 is a packet of document 01, and the first bytes are exactly that packet
pub packet_exact : (l : List ℕ) → (first_fields l).refusal ≡ 0 → Stands l (first_fields l)
packet_exact l z = ⊎_elim (λ e. absurd (omega (arith, refused_so (first_fields l) e, z))) (λ s. s) (told l)

-- a packet of document 01 that stands first is told
pub packet_told : (l : List ℕ) (f : Fields) → Stands l f → first_fields l ≡ f
packet_told l f (message_first requester upper address value r u a v aligned e) =
    ap first_fields (sym (take-append-drop (message_size upper) l) ∙ ap (λ (p : List ℕ). p ++ drop (message_size upper) l) e)
    ∙ first-message requester upper address value r u a v aligned (drop (message_size upper) l)
packet_told l f (wire_first requester pin active r first last e) =
    ap first_fields (sym (take-append-drop 16 l) ∙ ap (λ (p : List ℕ). p ++ drop 16 l) e)
    ∙ first-wire requester pin active r first last (drop 16 l)

stands_zero : (l : List ℕ) (f : Fields) → Stands l f → f.refusal ≡ 0
stands_zero l f (message_first requester upper address value r u a v aligned e) = refl
stands_zero l f (wire_first requester pin active r first last e) = refl

-- 60 with zeros exactly if no packet of document 01 stands first
pub packet_refused : (l : List ℕ) → (first_fields l ≡ no_packet) ↔ ((f : Fields) → Stands l f → ⊥)
packet_refused l = (
  λ e f s. omega (arith, refused_so f (sym (packet_told l f s) ∙ e), stands_zero l f s),
  λ none. ⊎_elim (λ e. e) (λ s. absurd (none (first_fields l) s)) (told l),
)
