-- The ways out of a call's parts, one law for each. Assumes nothing.
use mathlib.Core.Path.{◌≡◌, refl, sym, ap, ◌∙◌}
use mathlib.Core.Bool.{Bool, true, false}
use mathlib.Core.List.{List}
use Prim.Native.Nat.{ℕ, ◌%◌, ◌≤◌, ◌<◌}
use lib.Dec.{ltb, eqb}
use lib.ListN.{length}
use borrow.Author.Tests.{eq-eqb, ne_eqb, lt-ltb, le-ltb}
use Rattle.words.specs.Lists.{join, count, first_of}
use Rattle.words.specs.Writers.{Wrote}
use Rattle.words.proofs.BoolLaws.{by_test}
use Rattle.std.specs.Prelude.{Some, None}
use Rattle.tlp.specs.declared.decode.Message as Fields
use Rattle.tlp.specs.declared.decode.Level.{Level}
use Rattle.tlp.specs.declared.decode.Packet.TheVariants.{Message, Wire}
use Rattle.tlp.specs.Decoded.{decoded}
use Rattle.switch.specs.declared.Switch.{Switch}
use Rattle.switch.specs.declared.outcome.Outcome.{Outcome}
use Rattle.switch.specs.Switches.{wire_of, with_level, without_port, upstream}
use Rattle.switch.specs.Calls.{SwitchCall, pass, down, Switched, refused, device_of, bad_packet, bad_call, next_switch, change_of, changes, forwarded_by, sends, output_of, refusal, switch_step}
use Rattle.switch.specs.Joined.{upstream_of}
use Rattle.switch.specs.Outcomes.{refused_with, accepted_with, after, if_room, changed_to, message_passed, wire_taken}
use Rattle.switch.proofs.StepLaws.{message-next, message-sends, wire-next, wire-sends}

-- ---- room

module _ (s next : Switch) (bytes out : List ℕ) (r : Outcome) where
  pub room-short : length out < length bytes → r ≡ refused_with s 6 → after r out ≡ if_room s next bytes out
  unfolding if_room
  room-short h e = rw (e, lt-ltb (length out) (length bytes) h)

  pub room-done : (out' : List ℕ) (n : ℕ) → length bytes ≤ length out → Wrote bytes out n out' → r ≡ accepted_with next n → after r out' ≡ if_room s next bytes out
  unfolding if_room
  room-done out' n h w e = rw (e, le-ltb (length out) (length bytes) h, w.count, w.bytes)

-- ---- a message write

module _ (s : Switch) (address : ℕ) (bytes out : List ℕ) where
  pub message_bits : (r : Outcome) → (address % 4 ≡ 0 → ⊥) → r ≡ refused_with s 50 → after r out ≡ message_passed s address bytes out
  unfolding message_passed
  message_bits r n e = rw (e, ne_eqb (address % 4) 0 n)

  pub message_even : (x : Switched) → address % 4 ≡ 0 → x ≡ if_room s s bytes out → x ≡ message_passed s address bytes out
  unfolding message_passed
  message_even x h e = rw (eq-eqb (address % 4) 0 h) e

-- ---- a wire packet

module _ (s : Switch) (k : ℕ) (w : Level) (out : List ℕ) where
  pub wire_device : (r : Outcome) → (device_of w.requester ≡ 0 → ⊥) → r ≡ refused_with s 50 → after r out ≡ wire_taken s k w out
  unfolding wire_taken
  wire_device r n e = rw (e, ne_eqb (device_of w.requester) 0 n)

  pub wire_in : (x : Switched) (next : Switch) → device_of w.requester ≡ 0 → next ≡ with_level s k w.pin w.active → x ≡ changed_to s next out
      → x ≡ wire_taken s k w out
  unfolding wire_taken
  wire_in x next h n e = rw (eq-eqb (device_of w.requester) 0 h) (e ∙ ap (λ (t : Switch). changed_to s t out) n)

-- ---- changes of the upstream wires

-- the four wires of each switch say all of them
pub joined_changes : (requester : ℕ) (s next : Switch) (b a : List Bool) → b ≡ upstream_of s → a ≡ upstream_of next
    → changes requester (wire_of b) (wire_of a) ≡ changes requester (upstream s) (upstream next)
unfolding changes change_of join count upstream_of
joined_changes requester s next b a e f = rw (e, f)

-- ---- a call

-- 50 refuses
pub call_bad : (s : Switch) (c : SwitchCall) (r : Outcome) → bad_call c ≡ true → r ≡ refused_with s 50 → after r (output_of c) ≡ switch_step s c
unfolding switch_step refusal first_of
call_bad s c r h e = rw (e, h)

-- or only the room decides
call-good : (s : Switch) (c : SwitchCall) → bad_call c ≡ false → if_room s (next_switch s c) (sends s c) (output_of c) ≡ switch_step s c
unfolding switch_step refusal first_of if_room
call-good s c h = by_test (ltb (length (output_of c)) (length (sends s c))) (λ e. rw (h, e)) (λ e. rw (h, e))

-- ---- whether 50 refuses a packet

even_good : (m : Fields.Message) → eqb (m.address % 4) 0 ≡ true → bad_packet (Some (Message m)) ≡ false
unfolding bad_packet
even_good m q = rw q

odd_bad : (m : Fields.Message) → eqb (m.address % 4) 0 ≡ false → bad_packet (Some (Message m)) ≡ true
unfolding bad_packet
odd_bad m q = rw q

device_good : (w : Level) → eqb (device_of w.requester) 0 ≡ true → bad_packet (Some (Wire w)) ≡ false
unfolding bad_packet
device_good w q = rw q

device_bad : (w : Level) → eqb (device_of w.requester) 0 ≡ false → bad_packet (Some (Wire w)) ≡ true
unfolding bad_packet
device_bad w q = rw q

module _ (s : Switch) (k : ℕ) (out : List ℕ) where
  pub down-high : (r : Outcome) → 7 < k → r ≡ refused_with s 50 → after r out ≡ switch_step s (down k out)
  unfolding bad_call
  down-high r h e = call_bad s (down k out) r (lt-ltb 7 k h) e

  pub down-port : (x : Switched) (next : Switch) → k ≤ 7 → next ≡ without_port s k → x ≡ changed_to s next out → x ≡ switch_step s (down k out)
  unfolding bad_call next_switch sends forwarded_by
  down-port x next h n e = e ∙ ap (λ (t : Switch). changed_to s t out) n ∙ call-good s (down k out) (le-ltb 7 k h)

  module _ (bytes : List ℕ) where
    pub pass-high : (r : Outcome) → 7 < k → r ≡ refused_with s 50 → after r out ≡ switch_step s (pass k bytes out)
    unfolding bad_call
    pass-high r h e = call_bad s (pass k bytes out) r (rw (lt-ltb 7 k h)) e

    module _ (h : k ≤ 7) where
      -- no packet
      pub pass-other : (r : Outcome) → decoded bytes ≡ None → r ≡ refused_with s 50 → after r out ≡ switch_step s (pass k bytes out)
      unfolding bad_call bad_packet
      pass-other r d e = call_bad s (pass k bytes out) r (rw (le-ltb 7 k h, d)) e

      judged : bad_call (pass k bytes out) ≡ bad_packet (decoded bytes)
      unfolding bad_call
      judged = rw (le-ltb 7 k h)

      -- a packet that is taken
      taken : (next : Switch) (sent : List ℕ) → bad_packet (decoded bytes) ≡ false → next_switch s (pass k bytes out) ≡ next → sends s (pass k bytes out) ≡ sent
          → if_room s next sent out ≡ switch_step s (pass k bytes out)
      taken next sent g n e = (λ i. if_room s (sym n i) (sym e i) out) ∙ call-good s (pass k bytes out) (judged ∙ g)

      bad : bad_packet (decoded bytes) ≡ true → refused s 50 out ≡ switch_step s (pass k bytes out)
      bad b = call_bad s (pass k bytes out) (refused_with s 50) (judged ∙ b) refl

      pub pass-message : (x : Switched) (m : Fields.Message) → decoded bytes ≡ Some (Message m) → x ≡ message_passed s m.address bytes out
          → x ≡ switch_step s (pass k bytes out)
      unfolding message_passed
      pass-message x m d e =
          e
          ∙ by_test (eqb (m.address % 4) 0)
          (λ q. rw q (taken s bytes (ap bad_packet d ∙ even_good m q) (message-next s k bytes out m d) (message-sends s k bytes out m d)))
          (λ q. rw q (bad (ap bad_packet d ∙ odd_bad m q)))

      pub pass-wire : (x : Switched) (w : Level) → decoded bytes ≡ Some (Wire w) → x ≡ wire_taken s k w out → x ≡ switch_step s (pass k bytes out)
      unfolding wire_taken
      pass-wire x w d e =
          e
          ∙ by_test (eqb (device_of w.requester) 0)
          (λ q. rw q (taken _ _ (ap bad_packet d ∙ device_good w q) (wire-next s k bytes out w d) (wire-sends s k bytes out w d)))
          (λ q. rw q (bad (ap bad_packet d ∙ device_bad w q)))
