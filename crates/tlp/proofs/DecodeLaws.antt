-- Ways to decode a packet. Assumes nothing.
use mathlib.Core.Path.{◌≡◌, refl, sym, ap, ◌∙◌}
use mathlib.Core.Bool.{Bool, true, false, cond}
use mathlib.Core.List.{List}
use Prim.Native.Nat.{ℕ, ◌+◌, ◌-◌, ◌≤◌, ◌<◌}
use native.Mathlib.Omega.{arith}
use lib.Dec.{eqb}
use lib.ListN.{length, take, drop, length-take, length-drop}
use borrow.Author.Tests.{lt-ltb, le-ltb, eq-eqb, ne_eqb}
use Rattle.words.specs.Lists.{same}
use Rattle.words.specs.Bytes.{byte, word32, high16, high32}
use Rattle.words.specs.Writers.{Wrote}
use Rattle.model.specs.Packets.{message, wire_message}
use Rattle.tlp.specs.declared.decode.Message as Fields
use Rattle.tlp.specs.declared.decode.Level.{Level}
use Rattle.tlp.specs.declared.decode.Packet.{Packet}
use Rattle.tlp.specs.declared.decode.Packet.TheVariants.{Message, Wire}
use Rattle.std.specs.Prelude.{Option, Some, None}
use Rattle.std.specs.Bool.{then_some}
use Rattle.tlp.specs.Decoded.{as_message, as_wire, decoded_wire, decoded, first_length}
use Rattle.words.proofs.Writers.{wrote_front}
use Rattle.words.proofs.BoolLaws.{by_test}

-- ---- the bytes that a writer makes of the fields, compared

compared : (l p o o' : List ℕ) (n : ℕ) (c : Bool) → Wrote p o n o' → c ≡ same l (take n o') → c ≡ same l p
compared l p o o' n c w t = t ∙ ap (same l) (wrote_front w)

some_if : (c : Bool) (p : Packet) → then_some c p ≡ cond c (Some p) None
some_if true p = refl
some_if false p = refl

pub message_compared : (l : List ℕ) (m : Fields.Message) (u : ℕ) (c : Bool) → u ≡ m.upper → c ≡ same l (message m.requester u m.address m.value)
    → then_some c (Message m) ≡ as_message l m
unfolding as_message
message_compared l m u c e t = some_if c (Message m) ∙ rw (t, e)

module _ (l : List ℕ) (v : Level) (o o' : List ℕ) (n : ℕ) (c : Bool) (w : Wrote (wire_message v.requester v.pin v.active) o n o') (t : c ≡ same l (take n o')) where
  pub wire_compared : then_some c (Wire v) ≡ as_wire l v
  unfolding as_wire
  wire_compared = some_if c (Wire v) ∙ rw (compared l _ o o' n c w t)

-- ---- the wire's packet by its code

module _ (l : List ℕ) where
  pub code_low : byte l 7 < 0x20 → None ≡ decoded_wire l
  unfolding decoded_wire
  code_low h = rw (lt-ltb (byte l 7) 0x20 h)

  module _ (a : 0x20 ≤ byte l 7) where
    pub code-high : 0x27 < byte l 7 → None ≡ decoded_wire l
    unfolding decoded_wire
    code-high h = rw (le-ltb (byte l 7) 0x20 a, lt-ltb 0x27 (byte l 7) h)

    module _ (b : byte l 7 ≤ 0x27) (requester : ℕ) (e : requester ≡ high16 l 4) (r : Option Packet) where
      pub code-assert : byte l 7 < 0x24 → r ≡ as_wire l (record { requester = requester; pin = byte l 7 - 0x1f; active = true }) → r ≡ decoded_wire l
      unfolding decoded_wire
      code-assert h q = rw (le-ltb (byte l 7) 0x20 a, le-ltb 0x27 (byte l 7) b, lt-ltb (byte l 7) 0x24 h, sym e) q

      pub code-deassert : 0x24 ≤ byte l 7 → r ≡ as_wire l (record { requester = requester; pin = byte l 7 - 0x23; active = false }) → r ≡ decoded_wire l
      unfolding decoded_wire
      code-deassert h q = rw (le-ltb (byte l 7) 0x20 a, le-ltb 0x27 (byte l 7) b, le-ltb (byte l 7) 0x24 h, sym e) q

-- ---- any packet

module _ (l : List ℕ) where
  pub too_short : length l < 16 → None ≡ decoded l
  unfolding decoded
  too_short h = rw (lt-ltb (length l) 16 h)

  module _ (a : 16 ≤ length l) (r : Option Packet) where
    pub by-wire : byte l 0 ≡ 0x34 → r ≡ decoded_wire l → r ≡ decoded l
    unfolding decoded
    by-wire h q = rw (le-ltb (length l) 16 a, eq-eqb (byte l 0) 0x34 h) q

    module _ (b : byte l 0 ≡ 0x34 → ⊥) (requester : ℕ) (e : requester ≡ high16 l 4) where
      pub by-short : length l < 20 → (address value : ℕ) → address ≡ high32 l 8 → value ≡ word32 l 12
          → r ≡ as_message l (record { requester = requester; upper = 0; address = address; value = value }) → r ≡ decoded l
      unfolding decoded
      by-short h address value ea ev q =
          rw (le-ltb (length l) 16 a, ne_eqb (byte l 0) 0x34 b, lt-ltb (length l) 20 h)
          (q ∙ (λ i. as_message l (record { requester = e i; upper = 0; address = ea i; value = ev i })))

      pub by-long : 20 ≤ length l → (upper address value : ℕ) → upper ≡ high32 l 8 → address ≡ high32 l 12 → value ≡ word32 l 16
          → r ≡ as_message l (record { requester = requester; upper = upper; address = address; value = value }) → r ≡ decoded l
      unfolding decoded
      by-long h upper address value eu ea ev q =
          rw (le-ltb (length l) 16 a, ne_eqb (byte l 0) 0x34 b, le-ltb (length l) 20 h)
          (q ∙ (λ i. as_message l (record { requester = e i; upper = eu i; address = ea i; value = ev i })))

-- ---- packets one after another

some_bytes : (l : List ℕ) → 1 ≤ length l → (1 ≤ first_length l) × (first_length l ≤ length l)
unfolding first_length
some_bytes l h = by_test (eqb (byte l 0) 0x60) (λ q. rw q (omega arith, omega arith)) (λ q. rw q (omega arith, omega arith))

-- a packet n that is first in the bytes from place a on: it has a byte at least, and at most all that are left
pub next_packet : (l : List ℕ) (a n : ℕ) → a < length l → n ≡ first_length (take (length l - a) (drop a l)) → (1 ≤ n) × (a + n ≤ length l)
next_packet l a n h e =
    let m = take (length l - a) (drop a l) in
    let long : length m ≡ length l - a = simp (length-take, length-drop) (omega arith) in
    let b = some_bytes m (omega arith) in
    (omega (arith, b.0, e), omega (arith, b.1, e, long))
