-- Document 02, request [4], last sentence: a port's wire over every list of calls. A packet for the wire gives it its level, its port going down
-- drops it, and nothing else changes it. Assumes nothing.
use mathlib.Core.Path.{◌≡◌, refl, sym, ◌∙◌}
use mathlib.Core.Bool.{Bool, true, false, cond, ◌&&◌, ◌||◌, and-true, and-false}
use mathlib.Core.List.{List, []}
use mathlib.Core.Logic.{◌↔◌}
use Prim.Native.Nat.{ℕ, ◌≤◌, ◌<◌}
use lib.Dec.{eqb}
use Rattle.words.proofs.BoolLaws.{neither, or_intro}
use Rattle.model.specs.Answers.{is_accepted}
use Rattle.model.specs.declared.Answer.TheVariants.{Refused}
use Rattle.model.proofs.History.Machine.{Law, bit_after, bit-iff}
use Rattle.std.specs.Prelude.{Option, Some, None}
use Rattle.tlp.specs.declared.decode.Packet.{Packet}
use Rattle.tlp.specs.declared.decode.Packet.TheVariants.{Message, Wire}
use Rattle.tlp.specs.Decoded.{decoded}
use Rattle.tlp.proofs.RoundTrip.{decoded-wire}
use Rattle.switch.specs.declared.Switch.{Switch}
use Rattle.switch.specs.Switches.{fresh, level}
use Rattle.switch.specs.Calls.{SwitchCall, pass, down, Switched, bad_call, taking, next_switch, refusal, switch_step}
use Rattle.switch.specs.History.{SwitchEntry, entry_of, SwitchPast, SwitchRun, switch_called, switch_run, is_for, is_assert}
use Rattle.switch.specs.History.{gives_packet, gives_assert, takes_down, packet_for, assert_for, went_down, ActiveBy}
use Rattle.switch.specs.Claims.{Shaped}
use Rattle.switch.proofs.SwitchLaws.{shaped_fresh, level-fresh, level-set, level-down}
use Rattle.switch.proofs.StepLaws.{step_elim, refusal-zero, pass_fine, down_fine, shaped-kept}

-- ---- one accepted call

no-packet : (here was : Bool) → was ≡ cond (here && false) false was
no-packet here was = rw (and-false here)

module _ (s : Switch) (h : Shaped s) (k p : ℕ) (first : 1 ≤ p) where
  -- a packet for the wire gives it its level
  level-taking : (j : ℕ) (bytes : List ℕ) (x : Option Packet) → decoded bytes ≡ x → j < 8
      → level (taking s j x) k p ≡ cond (eqb j k && is_for p x) (is_assert x) (level s k p)
  unfolding taking is_for is_assert
  level-taking j bytes (Some (Message m)) e i = no-packet (eqb j k) (level s k p)
  level-taking j bytes (Some (Wire w)) e i =
      let b = decoded-wire bytes w e in
      level-set s h j i w.pin w.active k p b.first b.last first
  level-taking j bytes None e i = no-packet (eqb j k) (level s k p)

  -- the wire after a call: as a packet for it says; inactive if its port went down; or else as it was
  pub level-next : (c : SwitchCall) → bad_call c ≡ false → level (next_switch s c) k p ≡ cond (gives_packet k p c) (gives_assert c) (cond (takes_down k c) false (level s k p))
  unfolding next_switch gives_packet gives_assert takes_down
  level-next (pass j bytes out) b = level-taking j bytes (decoded bytes) refl (pass_fine j bytes out b).0
  level-next (down j out) b = level-down s h j (down_fine j out b) k p

-- ---- the law of every call

cond-bit : (packet asserts gone was : Bool) → cond packet asserts (cond gone false was) ≡ bit_after (packet && asserts) was (packet || gone)
cond-bit true true gone was = refl
cond-bit true false gone true = refl
cond-bit true false gone false = refl
cond-bit false asserts true true = refl
cond-bit false asserts true false = refl
cond-bit false asserts false true = refl
cond-bit false asserts false false = refl

-- an Assert of the wire
abbrev pub made : (k p : ℕ) → SwitchEntry → SwitchPast → Bool
made k p x before = assert_for k p x

-- any packet for it, or its port gone down
abbrev pub cleared : (k p : ℕ) → SwitchEntry → SwitchPast → Bool
cleared k p x before = packet_for k p x || went_down k x

-- the entry of a refused call changes no wire
pub bit-refused : (k p : ℕ) (c : SwitchCall) (n : ℕ) (was : Bool)
    → let x : SwitchEntry = record { call = c; answer = Refused n; bytes = [] } in
    was ≡ bit_after (assert_for k p x) was (packet_for k p x || went_down k x)
unfolding assert_for packet_for went_down is_accepted
bit-refused k p c n was = sym (and-true was)

abbrev LawOf : (k p : ℕ) → SwitchRun → SwitchRun → Type 0
LawOf k p = Law switch_called (λ r. r.past) (λ r. level r.switch k p) (λ r. Shaped r.switch) (made k p) (cleared k p)

module _ (k p : ℕ) (first : 1 ≤ p) where
  -- the level after a call by its entry
  pub level-step : (s : Switch) (c : SwitchCall) → Shaped s
      → let x : SwitchEntry = entry_of c (switch_step s c) in
      level (switch_step s c).switch k p ≡ bit_after (assert_for k p x) (level s k p) (packet_for k p x || went_down k x)
  unfolding assert_for packet_for went_down is_accepted
  level-step s c h =
      step_elim s c
      (λ (r : Switched). level r.switch k p ≡ bit_after (assert_for k p (entry_of c r)) (level s k p) (packet_for k p (entry_of c r) || went_down k (entry_of c r)))
      (λ e. level-next s h k p first c (refusal-zero s c e).0 ∙ cond-bit (gives_packet k p c) (gives_assert c) (takes_down k c) (level s k p))
      (λ e. bit-refused k p c (refusal s c) (level s k p))

  call_law : (r : SwitchRun) (c : SwitchCall) → Shaped r.switch → LawOf k p r (switch_called r c)
  unfolding switch_called
  call_law r c h = record {
    entry = entry_of c (switch_step r.switch c);
    longer = refl;
    good = shaped-kept r.switch c h;
    wait = level-step r.switch c h;
  }

-- "After any calls from a fresh switch, each given it as the last left it, a port's wire is active exactly if the last accepted packet for it was an
-- Assert and the port has not gone down since"
pub port-wire : (requester : ℕ) (calls : List SwitchCall) (k p : ℕ) → k < 8 → 1 ≤ p → p ≤ 4
    → let r : SwitchRun = switch_run (fresh requester) calls in
    (level r.switch k p ≡ true) ↔ ActiveBy k p r.past
unfolding switch_run
port-wire requester calls k p port first last =
    bit-iff switch_called (λ r. r.past) (λ r. level r.switch k p) (λ r. Shaped r.switch) (made k p) (cleared k p)
    (λ x before. (packet_for k p x ≡ false) × (went_down k x ≡ false))
    (λ x before. (neither (packet_for k p x) (went_down k x), λ b. or_intro (packet_for k p x) (went_down k x) b.0 b.1))
    (call_law k p first) (record { switch = fresh requester; past = [] }) (shaped_fresh requester) refl (level-fresh requester k p) calls
