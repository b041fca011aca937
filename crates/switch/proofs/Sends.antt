-- Document 02, request [4]: what a call of a switch sends. A message write passes; a wire packet changes one upstream wire at most; a port going down
-- deasserts only. Assumes nothing.
use mathlib.Core.Path.{◌≡◌, refl, sym, ap, ap₂, ◌∙◌}
use mathlib.Core.Bool.{Bool, true, false, not, cond, ◌&&◌}
use mathlib.Core.List.{List, []}
use Prim.Native.Nat.{ℕ, ◌-◌, ◌^◌, ◌≤◌, ◌<◌}
use native.Mathlib.Omega.{arith}
use lib.Dec.{eqb}
use lib.ListN.{length, set}
use lib.Seq.{set-get_or}
use borrow.Author.Tests.{eqb-true}
use Rattle.words.specs.Lists.{count, join}
use Rattle.words.proofs.BoolLaws.{by_test, both}
use Rattle.words.proofs.ListLaws.{join-same}
use Rattle.model.specs.Answers.{is_accepted}
use Rattle.model.specs.Packets.{message, wire_message}
use Rattle.model.proofs.Vectors.PacketLaws.{message-length, size-le}
use Rattle.std.specs.Prelude.{Option, Some, None}
use Rattle.tlp.specs.declared.decode.Level.{Level}
use Rattle.tlp.specs.declared.decode.Packet.{Packet}
use Rattle.tlp.specs.declared.decode.Packet.TheVariants.{Message, Wire}
use Rattle.tlp.specs.Decoded.{decoded}
use Rattle.tlp.proofs.RoundTrip.{wire_decodes, message_decodes, decoded-wire, decoded-message}
use Rattle.switch.specs.declared.Switch.{Switch}
use Rattle.switch.specs.Switches.{idle, port_of, switch_of, wires_of, level, with_level, without_port, upstream_pin, upstream}
use Rattle.switch.specs.Calls.{SwitchCall, pass, down, Switched, accepted, device_of, bad_call, next_switch, own_requester}
use Rattle.switch.specs.Calls.{change_of, changes, forwarded_by, sends, switch_step}
use Rattle.switch.specs.Claims.{of_wire}
use Rattle.switch.proofs.SwitchLaws.{level_other, level_was, upstream_mono, upstream-same, upstream-pin}
use Rattle.switch.proofs.StepLaws.{step_elim, step-accepted, zero-refusal, accepted-zero, fine_pass, message-next, message-sends, wire-next, wire-sends, other_sends}
use Rattle.switch.proofs.ChangeLaws.{no_changes, changes-one, change_length, changes-length, change_deasserts}
use Rattle.switch.proofs.Refusals.{port_packet}

-- ---- a message write

-- "Message writes pass unchanged": an accepted one leaves the switch, and its bytes are what is sent
pub message-passes : (s : Switch) (k requester upper address value : ℕ) → requester < 2 ^ 16 → upper < 2 ^ 32 → address < 2 ^ 32 → value < 2 ^ 32
    → (out : List ℕ)
    → let bytes : List ℕ = message requester upper address value in
    is_accepted (switch_step s (pass k bytes out)).answer ≡ true → switch_step s (pass k bytes out) ≡ accepted s bytes out
message-passes s k requester upper address value r u a v out e =
    let bytes = message requester upper address value in
    let d = message_decodes requester upper address value r u a v in
    step-accepted s (pass k bytes out) (accepted-zero s (pass k bytes out) e)
    ∙ ap₂ (λ (t : Switch) (l : List ℕ). accepted t l out) (message-next s k bytes out _ d) (message-sends s k bytes out _ d)

-- ---- a wire packet

-- a level that the wire has already
same-level : (s : Switch) (k p : ℕ) → with_level s k p (level s k p) ≡ s
unfolding with_level level
same-level s k p =
    ap (λ (wires : List Bool). switch_of s.requester (set s.ports k (port_of wires))) (set-get_or (wires_of s k) (p - 1) false)
    ∙ ap (switch_of s.requester) (set-get_or s.ports k idle)

-- the wire packet of pin p at port k
module _ (s : Switch) (k requester pin : ℕ) (active : Bool) (first : 1 ≤ pin) (last : pin ≤ 4) (out : List ℕ) where
  abbrev wire_pass : SwitchCall
  wire_pass = pass k (wire_message requester pin active) out

  pass-next : next_switch s wire_pass ≡ with_level s k pin active
  pass-next = wire-next s k (wire_message requester pin active) out _ (wire_decodes requester pin active first last)

  pass-sends : sends s wire_pass ≡ changes s.requester (upstream s) (upstream (with_level s k pin active))
  pass-sends = wire-sends s k (wire_message requester pin active) out _ (wire_decodes requester pin active first last)

-- "A repeated Assert or Deassert changes nothing": it is accepted with any output, even an empty one, leaves the switch and sends nothing
pub repeat_nothing : (s : Switch) (k requester pin : ℕ) (active : Bool) → k < 8 → requester < 2 ^ 16 → 1 ≤ pin → pin ≤ 4 → device_of requester ≡ 0
    → level s k pin ≡ active → (out : List ℕ) → switch_step s (pass k (wire_message requester pin active) out) ≡ accepted s [] out
repeat_nothing s k requester pin active port r first last device e out =
    let c : SwitchCall = pass k (wire_message requester pin active) out in
    let same : with_level s k pin active ≡ s = ap (with_level s k pin) (sym e) ∙ same-level s k pin in
    let none : sends s c ≡ [] =
    pass-sends s k requester pin active first last out ∙ ap (λ (t : Switch). changes s.requester (upstream s) (upstream t)) same
    ∙ no_changes s.requester (upstream s) in
    let fine : bad_call c ≡ false = fine_pass k _ out port ((port_packet _).1 (of_wire requester pin active r first last device)) in
    step-accepted s c (zero-refusal s c fine (rw none (omega arith)))
    ∙ ap₂ (λ (t : Switch) (l : List ℕ). accepted t l out) (pass-next s k requester pin active first last out ∙ same) none

module _ (s : Switch) (k pin : ℕ) (active : Bool) (first : 1 ≤ pin) where
  -- a wire's level is no matter to the other upstream pins
  upstream_other : (q : ℕ) → (q ≡ upstream_pin k pin → ⊥) → upstream (with_level s k pin active) q ≡ upstream s q
  upstream_other q n =
      upstream-same (with_level s k pin active) s q
      (λ j p _ one _ m.
      by_test (eqb k j && eqb pin p) (λ t. absurd (n (sym m ∙ here j p t))) (level_other s k pin j p active first one))
    where
      here : (j p : ℕ) → (eqb k j && eqb pin p) ≡ true → upstream_pin j p ≡ upstream_pin k pin
      here j p t = let z = both (eqb k j) (eqb pin p) t in sym (ap₂ upstream_pin (eqb-true k j z.0) (eqb-true pin p z.1))

  changes-pin : changes s.requester (upstream s) (upstream (with_level s k pin active))
      ≡ change_of s.requester (upstream s) (upstream (with_level s k pin active)) (upstream_pin k pin)
  changes-pin = let u = upstream-pin k pin in changes-one s.requester _ _ (upstream_pin k pin) u.0 u.1 upstream_other

-- a wire packet for pin p at port k leaves every upstream wire but one as it was, and sends a packet for that one if it changed, and else nothing
pub pass-one : (s : Switch) (k requester pin : ℕ) (active : Bool) → 1 ≤ pin → pin ≤ 4 → (out : List ℕ)
    → let c : SwitchCall = pass k (wire_message requester pin active) out in
    ((q : ℕ) → (q ≡ upstream_pin k pin → ⊥) → upstream (next_switch s c) q ≡ upstream s q)
    × (sends s c ≡ change_of s.requester (upstream s) (upstream (next_switch s c)) (upstream_pin k pin))
pass-one s k requester pin active first last out =
    let next = pass-next s k requester pin active first last out in (
      λ q n. ap (λ (t : Switch). upstream t q) next ∙ upstream_other s k pin active first q n,
      pass-sends s k requester pin active first last out ∙ changes-pin s k pin active first
          ∙ ap (λ (t : Switch). change_of s.requester (upstream s) (upstream t) (upstream_pin k pin)) (sym next),
    )

-- ---- a port going down

-- "A port going down drops its wires, changes sent in upstream pin order": a Deassert for each upstream wire that was active and is no more
pub down_deasserts : (s : Switch) (k : ℕ) (out : List ℕ)
    → sends s (down k out)
    ≡ join (λ q. cond (upstream s q && not (upstream (without_port s k) q)) (wire_message (own_requester s.requester) q false) []) (count 1 4)
unfolding sends forwarded_by next_switch changes
down_deasserts s k out =
    join-same (change_of s.requester (upstream s) (upstream (without_port s k))) _ (count 1 4)
    (λ q. change_deasserts s.requester (upstream s) (upstream (without_port s k)) q (upstream_mono (without_port s k) s q (λ j p _ _ _ _ e. level_was s k j p e)))

-- ---- at most

-- a packet sends at most n bytes if n is 20 or more and the changes of a wire packet are so many
pass-length : (s : Switch) (k : ℕ) (bytes out : List ℕ) (n : ℕ) → 20 ≤ n
    → ((w : Level) → decoded bytes ≡ Some (Wire w) → length (changes s.requester (upstream s) (upstream (with_level s k w.pin w.active))) ≤ n)
    → length (sends s (pass k bytes out)) ≤ n
pass-length s k bytes out n few f = go (decoded bytes) refl
  where
    go : (x : Option Packet) → decoded bytes ≡ x → length (sends s (pass k bytes out)) ≤ n
    go (Some (Message m)) e =
        let size = ap length (decoded-message bytes m e).bytes ∙ message-length m.requester m.upper m.address m.value in
        rw (message-sends s k bytes out m e) (omega (arith, size, size-le m.upper))
    go (Some (Wire w)) e = rw (wire-sends s k bytes out w e) (f w e)
    go None e = rw (other_sends s k bytes out e) (omega arith)

sends-length : (s : Switch) (c : SwitchCall) → length (sends s c) ≤ 64
unfolding sends forwarded_by
sends-length s (pass k bytes out) = pass-length s k bytes out 64 (omega arith) (λ w _. changes-length s.requester _ _)
sends-length s (down k out) = changes-length s.requester _ _

-- a call sends at most 64 bytes
pub bytes_bound : (s : Switch) (c : SwitchCall) → (switch_step s c).count ≤ 64
bytes_bound s c = step_elim s c (λ (r : Switched). r.count ≤ 64) (λ _. sends-length s c) (λ _. omega arith)

-- and for a packet at most 20
pub pass_bound : (s : Switch) (k : ℕ) (bytes out : List ℕ) → (switch_step s (pass k bytes out)).count ≤ 20
pass_bound s k bytes out =
    step_elim s (pass k bytes out) (λ (r : Switched). r.count ≤ 20)
    (λ _. pass-length s k bytes out 20 (omega arith) one)
    (λ _. omega arith)
  where
    one : (w : Level) → decoded bytes ≡ Some (Wire w) → length (changes s.requester (upstream s) (upstream (with_level s k w.pin w.active))) ≤ 20
    one w e =
        let r = decoded-wire bytes w e in
        let after = upstream (with_level s k w.pin w.active) in
        rw (changes-pin s k w.pin w.active r.first) (omega (arith, change_length s.requester (upstream s) after (upstream_pin k w.pin)))
