-- Every call of a switch is accepted or refused, by its refusal number; what a packet does, and what an entry of the past then says.
-- Assumes nothing.
use mathlib.Core.Path.{◌≡◌, refl, ap, ◌∙◌}
use mathlib.Core.Bool.{true, false, false≢true}
use mathlib.Core.List.{List, [], append-nil}
use Prim.Native.Nat.{ℕ, ◌≤◌, ◌<◌}
use native.Mathlib.Omega.{arith}
use lib.Dec.{ltb, eqb}
use lib.ListN.{length, drop}
use lib.Seq.{take_at}
use borrow.Author.Tests.{eq-eqb, eqb-true, le-ltb, ltb-false}
use Rattle.words.proofs.BoolLaws.{cond_elim, neither, or_intro, passed, row-passes, no_row}
use Rattle.model.specs.declared.Answer.TheVariants.{Refused, Done}
use Rattle.model.specs.Answers.{is_accepted}
use Rattle.std.specs.Prelude.{Option, Some, None}
use Rattle.tlp.specs.declared.decode.Message as Fields
use Rattle.tlp.specs.declared.decode.Level.{Level}
use Rattle.tlp.specs.declared.decode.Packet.{Packet}
use Rattle.tlp.specs.declared.decode.Packet.TheVariants.{Message, Wire}
use Rattle.tlp.specs.Decoded.{decoded}
use Rattle.switch.specs.declared.Switch.{Switch}
use Rattle.switch.specs.Switches.{with_level, without_port, upstream}
use Rattle.switch.specs.Calls.{SwitchCall, pass, down, Switched, refused, accepted, bad_packet, bad_call, taking, next_switch}
use Rattle.switch.specs.Calls.{changes, forwarded, forwarded_by, sends, output_of, refusal, switch_step}
use Rattle.switch.specs.History.{entry_of}
use Rattle.switch.specs.Claims.{Shaped}
use Rattle.switch.proofs.SwitchLaws.{shaped-level, shaped-down}
use Rattle.switch.proofs.ChangeLaws.{no_changes}

-- ---- the call

module _ (s : Switch) (c : SwitchCall) where
  -- with number 0 it is accepted, and with any other refused
  pub step-accepted : refusal s c ≡ 0 → switch_step s c ≡ accepted (next_switch s c) (sends s c) (output_of c)
  unfolding switch_step
  step-accepted e = rw (eq-eqb (refusal s c) 0 e)

  pub step-refused : eqb (refusal s c) 0 ≡ false → switch_step s c ≡ refused s (refusal s c) (output_of c)
  unfolding switch_step
  step-refused e = rw e

  -- what is so of an accepted and of a refused call is so of the call
  pub step_elim : (P : Switched → Type 0) → (refusal s c ≡ 0 → P (accepted (next_switch s c) (sends s c) (output_of c)))
      → (eqb (refusal s c) 0 ≡ false → P (refused s (refusal s c) (output_of c))) → P (switch_step s c)
  unfolding switch_step
  step_elim P f g = cond_elim P (eqb (refusal s c) 0) (λ e. f (eqb-true (refusal s c) 0 e)) g

  -- an accepted call has no fault, and its bytes have room
  pub refusal-zero : refusal s c ≡ 0 → (bad_call c ≡ false) × (length (sends s c) ≤ length (output_of c))
  unfolding refusal
  refusal-zero e =
      let first = passed 50 _ refl e in
      let second = passed 6 _ refl first.1 in
      (first.0, ltb-false (length (output_of c)) (length (sends s c)) second.0)

  -- and the other way round
  pub zero-refusal : bad_call c ≡ false → length (sends s c) ≤ length (output_of c) → refusal s c ≡ 0
  unfolding refusal
  zero-refusal b n = row-passes 50 _ b ∙ row-passes 6 [] (le-ltb (length (output_of c)) (length (sends s c)) n) ∙ no_row

  -- an accepted call has number 0
  pub accepted-zero : is_accepted (switch_step s c).answer ≡ true → refusal s c ≡ 0
  unfolding is_accepted
  accepted-zero = step_elim (λ (r : Switched). is_accepted r.answer ≡ true → refusal s c ≡ 0) (λ e _. e) (λ _ e. absurd (false≢true e))

-- the port and the packet of a call with no fault
pub pass_fine : (k : ℕ) (bytes out : List ℕ) → bad_call (pass k bytes out) ≡ false → (k < 8) × (bad_packet (decoded bytes) ≡ false)
unfolding bad_call
pass_fine k bytes out b =
    let p = neither (ltb 7 k) (bad_packet (decoded bytes)) b in
    (omega (arith, ltb-false 7 k p.0), p.1)

pub fine_pass : (k : ℕ) (bytes out : List ℕ) → k < 8 → bad_packet (decoded bytes) ≡ false → bad_call (pass k bytes out) ≡ false
unfolding bad_call
fine_pass k bytes out h b = or_intro (ltb 7 k) (bad_packet (decoded bytes)) (le-ltb 7 k (omega arith)) b

pub down_fine : (k : ℕ) (out : List ℕ) → bad_call (down k out) ≡ false → k < 8
unfolding bad_call
down_fine k out b = omega (arith, ltb-false 7 k b)

-- ---- what a packet does

module _ (s : Switch) (k : ℕ) (bytes out : List ℕ) where
  pub message-next : (m : Fields.Message) → decoded bytes ≡ Some (Message m) → next_switch s (pass k bytes out) ≡ s
  unfolding next_switch taking
  message-next m e = rw e

  pub message-sends : (m : Fields.Message) → decoded bytes ≡ Some (Message m) → sends s (pass k bytes out) ≡ bytes
  unfolding sends forwarded_by forwarded next_switch taking
  message-sends m e = rw (e, no_changes, append-nil)

  pub wire-next : (w : Level) → decoded bytes ≡ Some (Wire w) → next_switch s (pass k bytes out) ≡ with_level s k w.pin w.active
  unfolding next_switch taking
  wire-next w e = rw e

  pub wire-sends : (w : Level) → decoded bytes ≡ Some (Wire w) → sends s (pass k bytes out) ≡ changes s.requester (upstream s) (upstream (with_level s k w.pin w.active))
  unfolding sends forwarded_by forwarded next_switch taking
  wire-sends w e = rw e

  pub other_sends : decoded bytes ≡ None → sends s (pass k bytes out) ≡ []
  unfolding sends forwarded_by forwarded next_switch taking
  other_sends e = rw (e, no_changes)

-- ---- the entry

-- the bytes sent stand at the start of the output
pub entry-accepted : (s : Switch) (c : SwitchCall) → refusal s c ≡ 0 → entry_of c (switch_step s c) ≡ record { call = c; answer = Done; bytes = sends s c }
entry-accepted s c e =
    ap (entry_of c) (step-accepted s c e)
    ∙ ap (λ (l : List ℕ). record { call = c; answer = Done; bytes = l }) (take_at (sends s c) (drop (length (sends s c)) (output_of c)) (length (sends s c)) refl)

-- a refused call sends nothing
pub entry-refused : (s : Switch) (c : SwitchCall) → eqb (refusal s c) 0 ≡ false
    → entry_of c (switch_step s c) ≡ record { call = c; answer = Refused (refusal s c); bytes = [] }
entry-refused s c e = ap (entry_of c) (step-refused s c e)

-- ---- the shape

shaped-taking : (s : Switch) (k : ℕ) (x : Option Packet) → Shaped s → Shaped (taking s k x)
unfolding taking
shaped-taking s k (Some (Message m)) h = h
shaped-taking s k (Some (Wire w)) h = shaped-level s k w.pin w.active h
shaped-taking s k None h = h

pub shaped-next : (s : Switch) (c : SwitchCall) → Shaped s → Shaped (next_switch s c)
unfolding next_switch
shaped-next s (pass k bytes out) h = shaped-taking s k (decoded bytes) h
shaped-next s (down k out) h = shaped-down s k h

-- every call, accepted or refused, leaves eight ports of four wires
pub shaped-kept : (s : Switch) (c : SwitchCall) → Shaped s → Shaped (switch_step s c).switch
shaped-kept s c h = step_elim s c (λ (r : Switched). Shaped r.switch) (λ _. shaped-next s c h) (λ _. h)

-- ---- the requester ID

requester-taking : (s : Switch) (k : ℕ) (x : Option Packet) → (taking s k x).requester ≡ s.requester
unfolding taking with_level
requester-taking s k (Some (Message m)) = refl
requester-taking s k (Some (Wire w)) = refl
requester-taking s k None = refl

requester-next : (s : Switch) (c : SwitchCall) → (next_switch s c).requester ≡ s.requester
unfolding next_switch without_port
requester-next s (pass k bytes out) = requester-taking s k (decoded bytes)
requester-next s (down k out) = refl

-- every call, accepted or refused, leaves it
pub requester-kept : (s : Switch) (c : SwitchCall) → (switch_step s c).switch.requester ≡ s.requester
requester-kept s c = step_elim s c (λ (r : Switched). r.switch.requester ≡ s.requester) (λ _. requester-next s c) (λ _. refl)
