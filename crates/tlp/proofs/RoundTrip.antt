-- Packets read back: the bytes of a packet decode to its fields, and bytes that decode to a packet are that packet's.
-- Fields are read off the bytes as remainders, which are the fields themselves where these fit. Assumes nothing.
use mathlib.Core.Path.{◌≡◌, refl, sym, ap, ◌∙◌, subst}
use mathlib.Core.Bool.{Bool, true, false, cond}
use mathlib.Core.List.{List, [], ◌∷◌, ◌++◌}
use Prim.Native.Nat.{ℕ, ◌+◌, ◌-◌, ◌*◌, ◌/◌, ◌%◌, ◌^◌, ◌≤◌, ◌<◌}
use native.Mathlib.Nat.{mod-lt, mod-eq_of_lt}
use native.Mathlib.Omega.{arith}
use lib.Dec.{eqb, ltb}
use lib.ListN.{length, replicate}
use borrow.Author.Tests.{eqb-true, ltb-true, ltb-false}
use Rattle.words.specs.Lists.{same}
use Rattle.words.specs.Bytes.{byte, number, word32, high16, high32}
use Rattle.words.proofs.BoolLaws.{by_test, cond_elim}
use Rattle.words.proofs.ListLaws.{same_true, same_refl}
use Rattle.words.proofs.ByteLaws.{bytes_of-four, bytes_high-two, bytes_high-four}
use Rattle.model.specs.Packets.{message, message_size, wire_message}
use Rattle.model.proofs.Vectors.PacketLaws.{message-length, wire-length}
use Rattle.tlp.specs.declared.decode.Message as Fields
use Rattle.tlp.specs.declared.decode.Level.{Level}
use Rattle.tlp.specs.declared.decode.Packet.{Packet}
use Rattle.tlp.specs.declared.decode.Packet.TheVariants.{Message, Wire}
use Rattle.std.specs.Prelude.{Option, Some, None}
use Rattle.tlp.specs.Decoded.{as_message, as_wire, decoded_wire, decoded, first_length}
use Rattle.tlp.proofs.DecodeLaws.{by-wire, code-assert, code-deassert, by-short, by-long}

abbrev message_of : Fields.Message → List ℕ
message_of m = message m.requester m.upper m.address m.value

abbrev wire_of : Level → List ℕ
wire_of w = wire_message w.requester w.pin w.active

-- a word from its halves, and these from their bytes
half : (x : ℕ) → x / 256 % 256 * 256 + x % 256 ≡ x % 65536
half x = omega arith

word_high : (x : ℕ) → (x / 16777216 % 256 * 256 + x / 65536 % 256) * 65536 + (x / 256 % 256 * 256 + x % 256) ≡ x % 2 ^ 32
word_high x =
    let q : x / 65536 / 256 ≡ x / 16777216 = omega arith in
    let high : x / 16777216 % 256 * 256 + x / 65536 % 256 ≡ x / 65536 % 65536 = ap (λ (y : ℕ). y % 256 * 256 + x / 65536 % 256) (sym q) ∙ half (x / 65536) in
    rw (high, half x) (omega arith)

word_low : (x : ℕ) → x % 256 + 256 * (x / 256 % 256 + 256 * (x / 65536 % 256 + 256 * (x / 16777216 % 256 + 256 * 0))) ≡ x % 2 ^ 32
word_low x = regrouped (x % 256) (x / 256 % 256) (x / 65536 % 256) (x / 16777216 % 256) ∙ word_high x
  where
    regrouped : (a b c d : ℕ) → a + 256 * (b + 256 * (c + 256 * (d + 256 * 0))) ≡ (d * 256 + c) * 65536 + (b * 256 + a)
    regrouped a b c d = omega arith

-- ---- the bytes of a packet

module _ (requester pin : ℕ) (active : Bool) where
  wire-bytes : wire_message requester pin active
      ≡ 0x34 ∷ 0 ∷ 0 ∷ 0 ∷ requester / 256 % 256 ∷ requester % 256 ∷ 0 ∷ (cond active 0x1f 0x23 + pin) ∷ replicate 8 0
  unfolding wire_message
  wire-bytes = rw bytes_high-two

  wire-requester : high16 (wire_message requester pin active) 4 ≡ requester % 65536
  wire-requester = rw wire-bytes (half requester)

  wire-code : byte (wire_message requester pin active) 7 ≡ cond active 0x1f 0x23 + pin
  wire-code = rw wire-bytes

  wire_remainder : wire_message (requester % 65536) pin active ≡ wire_message requester pin active
  unfolding wire_message
  wire_remainder =
      let high : requester % 65536 / 256 % 256 ≡ requester / 256 % 256 = omega arith in
      let low : requester % 65536 % 256 ≡ requester % 256 = omega arith in
      rw (bytes_high-two (requester % 65536), high, low, bytes_high-two requester)

module _ (requester address value : ℕ) where
  short-bytes : message requester 0 address value
      ≡ 0x40 ∷ 0 ∷ 0 ∷ 1 ∷ requester / 256 % 256 ∷ requester % 256 ∷ 0 ∷ 0x0f
      ∷ address / 16777216 % 256 ∷ address / 65536 % 256 ∷ address / 256 % 256 ∷ address % 256
      ∷ value % 256 ∷ value / 256 % 256 ∷ value / 65536 % 256 ∷ value / 16777216 % 256 ∷ []
  unfolding message
  short-bytes = rw (bytes_high-two, bytes_high-four, bytes_of-four)

  short-requester : high16 (message requester 0 address value) 4 ≡ requester % 65536
  short-requester = rw short-bytes (half requester)

  short_address : high32 (message requester 0 address value) 8 ≡ address % 2 ^ 32
  short_address = rw short-bytes (word_high address)

  short-value : word32 (message requester 0 address value) 12 ≡ value % 2 ^ 32
  unfolding word32 number
  short-value = rw short-bytes (word_low value)

module _ (requester upper address value : ℕ) (some : eqb upper 0 ≡ false) where
  long-bytes : message requester upper address value
      ≡ 0x60 ∷ 0 ∷ 0 ∷ 1 ∷ requester / 256 % 256 ∷ requester % 256 ∷ 0 ∷ 0x0f
      ∷ upper / 16777216 % 256 ∷ upper / 65536 % 256 ∷ upper / 256 % 256 ∷ upper % 256
      ∷ address / 16777216 % 256 ∷ address / 65536 % 256 ∷ address / 256 % 256 ∷ address % 256
      ∷ value % 256 ∷ value / 256 % 256 ∷ value / 65536 % 256 ∷ value / 16777216 % 256 ∷ []
  unfolding message
  long-bytes = rw (some, bytes_high-two, bytes_high-four upper, bytes_high-four address, bytes_of-four)

  long-requester : high16 (message requester upper address value) 4 ≡ requester % 65536
  long-requester = rw long-bytes (half requester)

  long_upper : high32 (message requester upper address value) 8 ≡ upper % 2 ^ 32
  long_upper = rw long-bytes (word_high upper)

  long_address : high32 (message requester upper address value) 12 ≡ address % 2 ^ 32
  long_address = rw long-bytes (word_high address)

  long-value : word32 (message requester upper address value) 16 ≡ value % 2 ^ 32
  unfolding word32 number
  long-value = rw long-bytes (word_low value)

-- ---- a packet's bytes decode to its fields

is_message : (l : List ℕ) (m : Fields.Message) → l ≡ message_of m → Some (Message m) ≡ as_message l m
unfolding as_message
is_message l m e = rw (e, same_refl)

is_wire : (l : List ℕ) (w : Level) → l ≡ wire_of w → Some (Wire w) ≡ as_wire l w
unfolding as_wire
is_wire l w e = rw (e, same_refl)

module _ (requester pin : ℕ) (first : 1 ≤ pin) (last : pin ≤ 4) where
  abbrev level_of : Bool → Level
  level_of active = record { requester = requester % 65536; pin = pin; active = active }

  read_as : (l : List ℕ) (active : Bool) (p : ℕ) → l ≡ wire_message requester pin active → p ≡ pin
      → Some (Wire (level_of active)) ≡ as_wire l (record { requester = requester % 65536; pin = p; active = active })
  read_as l active p e q =
      is_wire l (level_of active) (e ∙ sym (wire_remainder requester pin active))
      ∙ ap (λ (x : ℕ). as_wire l (record { requester = requester % 65536; pin = x; active = active })) (sym q)

  wire_read : (active : Bool) → Some (Wire (level_of active)) ≡ decoded_wire (wire_message requester pin active)
  wire_read true =
      let l = wire_message requester pin true in
      let c : byte l 7 ≡ 0x1f + pin = wire-code requester pin true in
      code-assert l (omega arith) (omega arith) (requester % 65536) (sym (wire-requester requester pin true)) _ (omega arith)
      (read_as l true (byte l 7 - 0x1f) refl (omega arith))
  wire_read false =
      let l = wire_message requester pin false in
      let c : byte l 7 ≡ 0x23 + pin = wire-code requester pin false in
      code-deassert l (omega arith) (omega arith) (requester % 65536) (sym (wire-requester requester pin false)) _ (omega arith)
      (read_as l false (byte l 7 - 0x23) refl (omega arith))

-- the wire's packet of a pin 1 to 4 and a level is read back with the low 16 bits of its requester ID
pub wire_decodes : (requester pin : ℕ) (active : Bool) → 1 ≤ pin → pin ≤ 4
    → decoded (wire_message requester pin active) ≡ Some (Wire (record { requester = requester % 65536; pin = pin; active = active }))
wire_decodes requester pin active first last =
    sym (by-wire (wire_message requester pin active) (omega (arith, wire-length requester pin active)) _ (rw wire-bytes) (wire_read requester pin first last active))

-- a message write is read back with all its fields
pub message_decodes : (requester upper address value : ℕ) → requester < 2 ^ 16 → upper < 2 ^ 32 → address < 2 ^ 32 → value < 2 ^ 32
    → decoded (message requester upper address value) ≡ Some (Message (record { requester = requester; upper = upper; address = address; value = value }))
message_decodes requester upper address value r u a v =
    by_test (eqb upper 0) (λ e. rw (eqb-true upper 0 e) short) long
  where
    short : decoded (message requester 0 address value) ≡ Some (Message (record { requester = requester; upper = 0; address = address; value = value }))
    short =
        let l = message requester 0 address value in
        let n : length l ≡ 16 = rw short-bytes in
        let b : byte l 0 ≡ 0x40 = rw short-bytes in
        sym (by-short l (omega arith) _ (λ z. omega arith) requester (sym (short-requester requester address value ∙ mod-eq_of_lt r)) (omega arith) address value
        (sym (short_address requester address value ∙ mod-eq_of_lt a))
        (sym (short-value requester address value ∙ mod-eq_of_lt v))
        (is_message l _ refl))

    long : eqb upper 0 ≡ false → decoded (message requester upper address value) ≡ Some (Message (record { requester = requester; upper = upper; address = address; value = value }))
    long e =
        let l = message requester upper address value in
        let n : length l ≡ 20 = rw (long-bytes requester upper address value e) in
        let b : byte l 0 ≡ 0x60 = rw (long-bytes requester upper address value e) in
        sym (by-long l (omega arith) _ (λ z. omega arith) requester (sym (long-requester requester upper address value e ∙ mod-eq_of_lt r)) (omega arith) upper address value
        (sym (long_upper requester upper address value e ∙ mod-eq_of_lt u))
        (sym (long_address requester upper address value e ∙ mod-eq_of_lt a))
        (sym (long-value requester upper address value e ∙ mod-eq_of_lt v))
        (is_message l _ refl))

-- ---- bytes that decode to a packet are that packet's

-- a message write with fields of 16 and 32 bits
pub record IsMessage (l : List ℕ) (m : Fields.Message) : Type 0 where
  pub bytes : l ≡ message m.requester m.upper m.address m.value
  pub requester : m.requester < 2 ^ 16
  pub upper : m.upper < 2 ^ 32
  pub address : m.address < 2 ^ 32
  pub value : m.value < 2 ^ 32

-- a wire packet of a pin 1 to 4
pub record IsWire (l : List ℕ) (w : Level) : Type 0 where
  pub bytes : l ≡ wire_message w.requester w.pin w.active
  pub requester : w.requester < 2 ^ 16
  pub first : 1 ≤ w.pin
  pub last : w.pin ≤ 4

-- what the decoder says of bytes is so of them
unfoldable Reads : List ℕ → Option Packet → Type 0
Reads l (Some (Message m)) = IsMessage l m
Reads l (Some (Wire w)) = IsWire l w
Reads l None = Unit

as-message : (l : List ℕ) (m : Fields.Message) → (l ≡ message_of m → IsMessage l m) → Reads l (as_message l m)
unfolding Reads as_message
as-message l m f = cond_elim (Reads l) (same l (message_of m)) (λ e. f (same_true l (message_of m) e)) (λ _. tt)

as-wire : (l : List ℕ) (w : Level) → (l ≡ wire_of w → IsWire l w) → Reads l (as_wire l w)
unfolding Reads as_wire
as-wire l w f = cond_elim (Reads l) (same l (wire_of w)) (λ e. f (same_true l (wire_of w) e)) (λ _. tt)

-- a field that is its own remainder fits
fits : (n x y : ℕ) → 0 < n → x ≡ y → y ≡ x % n → x < n
fits n x y p e q = subst (λ (z : ℕ). z < n) (sym (e ∙ q)) (mod-lt x p)

module _ (l : List ℕ) where
  short-fields : (requester address value : ℕ) → requester ≡ high16 l 4 → address ≡ high32 l 8 → value ≡ word32 l 12
      → l ≡ message requester 0 address value → IsMessage l (record { requester = requester; upper = 0; address = address; value = value })
  short-fields requester address value r a v e = record {
    bytes = e;
    requester = fits 65536 requester _ (omega arith) r (ap (λ (x : List ℕ). high16 x 4) e ∙ short-requester requester address value);
    upper = omega arith;
    address = fits (2 ^ 32) address _ (omega arith) a (ap (λ (x : List ℕ). high32 x 8) e ∙ short_address requester address value);
    value = fits (2 ^ 32) value _ (omega arith) v (ap (λ (x : List ℕ). word32 x 12) e ∙ short-value requester address value);
  }

  long-fields : (requester upper address value : ℕ) → 20 ≤ length l → requester ≡ high16 l 4 → upper ≡ high32 l 8 → address ≡ high32 l 12 → value ≡ word32 l 16
      → l ≡ message requester upper address value → IsMessage l (record { requester = requester; upper = upper; address = address; value = value })
  unfolding message_size
  long-fields requester upper address value n r u a v e =
      by_test (eqb upper 0)
      (λ z. let k : length l ≡ 16 = ap length e ∙ message-length requester upper address value ∙ rw z in absurd (omega arith))
      (λ z. record {
        bytes = e;
        requester = fits 65536 requester _ (omega arith) r (ap (λ (x : List ℕ). high16 x 4) e ∙ long-requester requester upper address value z);
        upper = fits (2 ^ 32) upper _ (omega arith) u (ap (λ (x : List ℕ). high32 x 8) e ∙ long_upper requester upper address value z);
        address = fits (2 ^ 32) address _ (omega arith) a (ap (λ (x : List ℕ). high32 x 12) e ∙ long_address requester upper address value z);
        value = fits (2 ^ 32) value _ (omega arith) v (ap (λ (x : List ℕ). word32 x 16) e ∙ long-value requester upper address value z);
      })

  wire-fields : (requester pin : ℕ) (active : Bool) → requester ≡ high16 l 4 → 1 ≤ pin → pin ≤ 4 → l ≡ wire_message requester pin active
      → IsWire l (record { requester = requester; pin = pin; active = active })
  wire-fields requester pin active r first last e = record {
    bytes = e;
    requester = fits 65536 requester _ (omega arith) r (ap (λ (x : List ℕ). high16 x 4) e ∙ wire-requester requester pin active);
    first = first;
    last = last;
  }

  wire-reads : Reads l (decoded_wire l)
  unfolding Reads decoded_wire
  wire-reads =
      cond_elim (Reads l) (ltb (byte l 7) 0x20) (λ _. tt)
      (λ a. cond_elim (Reads l) (ltb 0x27 (byte l 7)) (λ _. tt)
      (λ b. let low : 0x20 ≤ byte l 7 = ltb-false (byte l 7) 0x20 a in let high : byte l 7 ≤ 0x27 = ltb-false 0x27 (byte l 7) b in
      cond_elim (Reads l) (ltb (byte l 7) 0x24)
      (λ c. let under : byte l 7 < 0x24 = ltb-true (byte l 7) 0x24 c in as-wire l _ (wire-fields (high16 l 4) (byte l 7 - 0x1f) true refl (omega arith) (omega arith)))
      (λ c. let from : 0x24 ≤ byte l 7 = ltb-false (byte l 7) 0x24 c in as-wire l _ (wire-fields (high16 l 4) (byte l 7 - 0x23) false refl (omega arith) (omega arith)))))

  decoded-reads : Reads l (decoded l)
  unfolding Reads decoded
  decoded-reads =
      cond_elim (Reads l) (ltb (length l) 16) (λ _. tt)
      (λ _. cond_elim (Reads l) (eqb (byte l 0) 0x34) (λ _. wire-reads)
      (λ _. cond_elim (Reads l) (ltb (length l) 20)
      (λ _. as-message l _ (short-fields (high16 l 4) (high32 l 8) (word32 l 12) refl refl refl))
      (λ n. as-message l _ (long-fields (high16 l 4) (high32 l 8) (high32 l 12) (word32 l 16) (ltb-false (length l) 20 n) refl refl refl refl))))

-- bytes that decode to a message write are its bytes, and its fields have 16 and 32 bits
pub decoded-message : (l : List ℕ) (m : Fields.Message) → decoded l ≡ Some (Message m) → IsMessage l m
unfolding Reads
decoded-message l m e = subst (Reads l) e (decoded-reads l)

-- bytes that decode to a wire packet are its bytes, and its pin is 1 to 4
pub decoded-wire : (l : List ℕ) (w : Level) → decoded l ≡ Some (Wire w) → IsWire l w
unfolding Reads
decoded-wire l w e = subst (Reads l) e (decoded-reads l)

-- ---- the first of some packets

-- where a wire packet stands first, it is taken whole
pub first-wire : (requester pin : ℕ) (active : Bool) (rest : List ℕ) → first_length (wire_message requester pin active ++ rest) ≡ 16
unfolding first_length
first-wire requester pin active rest = rw wire-bytes (omega arith)

-- where a message write stands first, it is taken whole
pub first-message : (requester upper address value : ℕ) (rest : List ℕ) → first_length (message requester upper address value ++ rest) ≡ message_size upper
unfolding first_length message_size
first-message requester upper address value rest =
    by_test (eqb upper 0)
    (λ e. rw (eqb-true upper 0 e, short-bytes) (omega arith))
    (λ e. rw (long-bytes requester upper address value e, e) (omega arith))
