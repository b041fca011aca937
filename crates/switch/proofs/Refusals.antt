-- Document 02, request [4]: which calls of a switch are refused, with which number, and that a refused one changes nothing.
-- Assumes nothing.
use mathlib.Core.Path.{◌≡◌, refl, sym, ◌∙◌, subst}
use mathlib.Core.Bool.{Bool, true, false, ◌||◌, true≢false, false≢true}
use mathlib.Core.List.{List, [], ◌∷◌}
use mathlib.Core.Logic.Iff
use mathlib.Core.Logic.{◌↔◌, ◌⊎◌, inl, inr}
use Prim.Native.Nat.{ℕ, ◌%◌, ◌<◌}
use native.Mathlib.Nat.{mod-eq_of_lt}
use native.Mathlib.Omega.{arith}
use lib.Dec.{ltb, eqb}
use lib.ListN.{length}
use borrow.Author.Tests.{eq-eqb, eqb-true, ltb-true, lt-ltb, not-false}
use Rattle.words.specs.Lists.{first_of, lacks}
use Rattle.words.proofs.BoolLaws.{first-lacks}
use Rattle.model.specs.Answers.{is_accepted, refusal_of}
use Rattle.std.specs.Prelude.{Option, Some, None}
use Rattle.tlp.specs.declared.decode.Packet.{Packet}
use Rattle.tlp.specs.declared.decode.Packet.TheVariants.{Message, Wire}
use Rattle.tlp.specs.Decoded.{decoded}
use Rattle.tlp.proofs.RoundTrip.{wire_decodes, message_decodes, decoded-wire, decoded-message}
use Rattle.switch.specs.declared.Switch.{Switch}
use Rattle.switch.specs.Calls.{SwitchCall, pass, down, Switched, device_of, bad_packet, bad_call, sends, output_of, refusal, switch_step}
use Rattle.switch.specs.Claims.{Unchanged, PortPacket, of_message, of_wire}
use Rattle.switch.proofs.StepLaws.{step_elim}

-- ---- the number

-- which of two rows applies
rows_50 : (a b : Bool) → (first_of ((50, a) ∷ (6, b) ∷ []) ≡ 50) ↔ (a ≡ true)
unfolding first_of
rows_50 true b = (λ _. refl, λ _. refl)
rows_50 false true = (λ e. absurd (omega arith), λ e. absurd (false≢true e))
rows_50 false false = (λ e. absurd (omega arith), λ e. absurd (false≢true e))

rows_6 : (a b : Bool) → (first_of ((50, a) ∷ (6, b) ∷ []) ≡ 6) ↔ ((a ≡ false) × (b ≡ true))
unfolding first_of
rows_6 true b = (λ e. absurd (omega arith), λ e. absurd (true≢false e.0))
rows_6 false true = (λ _. (refl, refl), λ _. refl)
rows_6 false false = (λ e. absurd (omega arith), λ e. absurd (false≢true e.1))

module _ (s : Switch) (c : SwitchCall) where
  -- the number that a call answers is that of the first reason that applies, 0 if none does
  pub refusal-number : refusal_of (switch_step s c).answer ≡ refusal s c
  unfolding refusal_of
  refusal-number = step_elim s c (λ (r : Switched). refusal_of r.answer ≡ refusal s c) (λ e. sym e) (λ _. refl)

  -- and it is 0, 50 or 6
  pub other_number : (k : ℕ) → eqb 0 k ≡ false → eqb 50 k ≡ false → eqb 6 k ≡ false → eqb (refusal s c) k ≡ false
  unfolding refusal lacks
  other_number k z fifty six = first-lacks k _ z (rw (fifty, six))

  -- a refused call leaves the switch and the output as they were, and sends nothing
  pub refused_unchanged : is_accepted (switch_step s c).answer ≡ false → Unchanged s (output_of c) (switch_step s c)
  unfolding is_accepted
  refused_unchanged =
      step_elim s c (λ (r : Switched). is_accepted r.answer ≡ false → Unchanged s (output_of c) r) (λ _ e. absurd (true≢false e))
      (λ _ _. record { switch = refl; output = refl; count = refl })

  -- "then 6": exactly if there is no reason for 50 and the output is shorter than the bytes of the call
  pub room_exact : (refusal_of (switch_step s c).answer ≡ 6) ↔ ((bad_call c ≡ false) × (length (output_of c) < length (sends s c)))
  unfolding refusal
  room_exact = (
    λ e. let p = (rows_6 (bad_call c) _).0 (sym refusal-number ∙ e) in (p.0, ltb-true (length (output_of c)) (length (sends s c)) p.1),
    λ p. refusal-number ∙ (rows_6 (bad_call c) _).1 (p.0, lt-ltb (length (output_of c)) (length (sends s c)) p.1),
  )

  -- a call is refused with 50 exactly if it has a fault
  bad_refused : (refusal_of (switch_step s c).answer ≡ 50) ↔ (bad_call c ≡ true)
  unfolding refusal
  bad_refused = (λ e. (rows_50 (bad_call c) _).0 (sym refusal-number ∙ e), λ b. refusal-number ∙ (rows_50 (bad_call c) _).1 b)

-- ---- 50

-- a packet that the switch takes is a single one in document 01's layouts, any requester, address bits 1:0 zero; or of a wire, with device number 0
pub port_packet : (bytes : List ℕ) → (bad_packet (decoded bytes) ≡ false) ↔ PortPacket bytes
unfolding bad_packet
port_packet bytes = (go (decoded bytes) refl, taken)
  where
    go : (x : Option Packet) → decoded bytes ≡ x → bad_packet x ≡ false → PortPacket bytes
    go (Some (Message m)) e b =
        let r = decoded-message bytes m e in
        subst PortPacket (sym r.bytes)
        (of_message m.requester m.upper m.address m.value r.requester r.upper r.address r.value (eqb-true (m.address % 4) 0 (not-false _ b)))
    go (Some (Wire w)) e b =
        let r = decoded-wire bytes w e in
        subst PortPacket (sym r.bytes)
        (of_wire w.requester w.pin w.active r.requester r.first r.last (eqb-true (device_of w.requester) 0 (not-false _ b)))
    go None e b = absurd (true≢false b)

    taken : {l : List ℕ} → PortPacket l → bad_packet (decoded l) ≡ false
    taken (of_message requester upper address value r u a v low) = rw (message_decodes requester upper address value r u a v, eq-eqb (address % 4) 0 low)
    taken (of_wire requester pin active r first last device) =
        rw (wire_decodes requester pin active first last, mod-eq_of_lt r, eq-eqb (device_of requester) 0 device)

-- a test that fails, in words
failing : (b : Bool) {P : Type 0} → (b ≡ false) ↔ P → (b ≡ true) ↔ (P → ⊥)
failing true f = (λ _ p. true≢false (f.1 p), λ _. refl)
failing false f = (λ e. absurd (false≢true e), λ n. absurd (n (f.0 refl)))

either : (a b : Bool) {P Q : Type 0} → (a ≡ true) ↔ P → (b ≡ true) ↔ Q → ((a || b) ≡ true) ↔ (P ⊎ Q)
either true b f g = (λ _. inl (f.0 refl), λ _. refl)
either false b f g = (λ e. inr (g.0 e), elim [ inl p ↦ absurd (false≢true (f.1 p)) | inr q ↦ g.1 q ])

above : (k : ℕ) → (ltb 7 k ≡ true) ↔ (7 < k)
above k = (ltb-true 7 k, lt-ltb 7 k)

-- "Refusal 50 is for a port above 7, bytes that are no single packet in 01's layouts (any requester, address bits 1:0 zero), or a wire packet with a
-- device number other than 0"
pub packet_refused : (s : Switch) (k : ℕ) (bytes out : List ℕ)
    → (refusal_of (switch_step s (pass k bytes out)).answer ≡ 50) ↔ ((7 < k) ⊎ (PortPacket bytes → ⊥))
unfolding bad_call
packet_refused s k bytes out =
    Iff.trans (bad_refused s (pass k bytes out)) (either (ltb 7 k) (bad_packet (decoded bytes)) (above k) (failing (bad_packet (decoded bytes)) (port_packet bytes)))

-- and of a port going down only for a port above 7
pub down-refused : (s : Switch) (k : ℕ) (out : List ℕ) → (refusal_of (switch_step s (down k out)).answer ≡ 50) ↔ (7 < k)
unfolding bad_call
down-refused s k out = Iff.trans (bad_refused s (down k out)) (above k)
