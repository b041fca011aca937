-- What the host has heard of an upstream pin is the level of the upstream wire, after every list of calls, and each change of it sends one packet.
-- Assumes nothing.
use mathlib.Core.Path.{◌≡◌, refl, sym, ap, ◌∙◌, subst}
use mathlib.Core.Bool.{Bool, true, false, cond, beq}
use mathlib.Core.List.{List, [], ◌∷◌, ◌++◌}
use mathlib.Core.Logic.{◌↔◌}
use Prim.Native.Nat.{ℕ, ◌≤◌, ◌<◌}
use native.Mathlib.Nat.{le_refl}
use lib.Dec.{eqb}
use lib.ListN.{length}
use borrow.Author.Tests.{eqb-true}
use Rattle.words.proofs.BoolLaws.{by_test}
use Rattle.model.specs.Answers.{is_accepted}
use Rattle.model.specs.declared.Answer.TheVariants.{Refused, Done}
use Rattle.model.specs.Since.{Every}
use Rattle.model.proofs.History.SinceLaws.{every-nil, every-cons}
use Rattle.model.proofs.History.Machine.{list_keeps}
use Rattle.switch.specs.declared.Switch.{Switch}
use Rattle.switch.specs.Switches.{fresh, level, upstream}
use Rattle.switch.specs.Calls.{SwitchCall, pass, down, Switched, next_switch, changes, forwarded_by, sends, refusal, switch_step}
use Rattle.switch.specs.History.{SwitchEntry, entry_of, SwitchPast, SwitchRun, switch_called, switch_run, heard, ActiveBy, DrivenBy}
use Rattle.switch.proofs.SwitchLaws.{upstream-active, upstream_elim, upstream-fresh}
use Rattle.switch.proofs.StepLaws.{step-accepted, step-refused, entry-accepted, entry-refused, requester-kept}
use Rattle.switch.proofs.ChangeLaws.{changes-agree}
use Rattle.switch.proofs.HeardLaws.{Says, says_nothing, says-changes, says-forwarded}
use Rattle.switch.proofs.PortWire.{port-wire}

-- ---- one call

-- its bytes take the level of an upstream pin from the switch before to the switch after
says-sends : (s : Switch) (c : SwitchCall) (q : ℕ) → 1 ≤ q → q ≤ 4
    → Says q (sends s c) (λ b. cond (beq (upstream s q) (upstream (next_switch s c) q)) b (upstream (next_switch s c) q))
unfolding sends forwarded_by
says-sends s (pass k bytes out) q first last =
    says-forwarded q bytes _ _ (says-changes s.requester (upstream s) (upstream (next_switch s (pass k bytes out))) q first last)
says-sends s (down k out) q first last = says-changes s.requester (upstream s) (upstream (next_switch s (down k out))) q first last

new_level : (a b : Bool) → cond (beq a b) a b ≡ b
new_level true true = refl
new_level true false = refl
new_level false true = refl
new_level false false = refl

-- what a call sends, by what the host has heard before it and after it
abbrev pub SentBy : (requester : ℕ) → SwitchEntry → SwitchPast → Type 0
SentBy requester x before =
    x.bytes ≡ cond (is_accepted x.answer) (forwarded_by x.call ++ changes requester (λ q. heard q before) (λ q. heard q (x ∷ before))) []

-- a switch and a past that agree
pub record Agree (requester : ℕ) (s : Switch) (past : SwitchPast) : Type 0 where
  pub own : s.requester ≡ requester
  pub hears : (q : ℕ) → 1 ≤ q → q ≤ 4 → heard q past ≡ upstream s q

-- before any call: no wire is active, and the host has heard nothing
pub agree_fresh : (requester : ℕ) → Agree requester (fresh requester) []
unfolding fresh heard
agree_fresh requester = record { own = refl; hears = λ q first last. sym (upstream-fresh requester q) }

-- a refused call sends nothing
pub sent-refused : (requester : ℕ) (c : SwitchCall) (n : ℕ) (past : SwitchPast) → SentBy requester (record { call = c; answer = Refused n; bytes = [] }) past
unfolding is_accepted
sent-refused requester c n past = refl

module _ (requester : ℕ) (s : Switch) (c : SwitchCall) (past : SwitchPast) (a : Agree requester s past) where
  heard-accepted : (q : ℕ) → 1 ≤ q → q ≤ 4 → heard q (record { call = c; answer = Done; bytes = sends s c } ∷ past) ≡ upstream (next_switch s c) q
  unfolding heard
  heard-accepted q first last =
      says-sends s c q first last (length (sends s c)) (le_refl _) (heard q past)
      ∙ ap (λ (b : Bool). cond (beq (upstream s q) (upstream (next_switch s c) q)) b (upstream (next_switch s c) q)) (a.hears q first last)
      ∙ new_level (upstream s q) (upstream (next_switch s c) q)

  pub heard-refused : (q n : ℕ) → heard q (record { call = c; answer = Refused n; bytes = [] } ∷ past) ≡ heard q past
  unfolding heard
  heard-refused q n = says_nothing q 0 (le_refl _) (heard q past)

  pub heard-step : (q : ℕ) → 1 ≤ q → q ≤ 4 → heard q (entry_of c (switch_step s c) ∷ past) ≡ upstream (switch_step s c).switch q
  heard-step q first last = by_test (eqb (refusal s c) 0) (λ z. done (eqb-true (refusal s c) 0 z)) stopped
    where
      done : refusal s c ≡ 0 → heard q (entry_of c (switch_step s c) ∷ past) ≡ upstream (switch_step s c).switch q
      done z =
          ap (λ (x : SwitchEntry). heard q (x ∷ past)) (entry-accepted s c z) ∙ heard-accepted q first last
          ∙ sym (ap (λ (r : Switched). upstream r.switch q) (step-accepted s c z))

      stopped : eqb (refusal s c) 0 ≡ false → heard q (entry_of c (switch_step s c) ∷ past) ≡ upstream (switch_step s c).switch q
      stopped z =
          ap (λ (x : SwitchEntry). heard q (x ∷ past)) (entry-refused s c z) ∙ heard-refused q (refusal s c) ∙ a.hears q first last
          ∙ sym (ap (λ (r : Switched). upstream r.switch q) (step-refused s c z))

  pub sent-step : SentBy requester (entry_of c (switch_step s c)) past
  unfolding sends is_accepted
  sent-step =
      by_test (eqb (refusal s c) 0)
      (λ z. subst (λ (x : SwitchEntry). SentBy requester x past) (sym (entry-accepted s c (eqb-true (refusal s c) 0 z)))
      (ap (λ (l : List ℕ). forwarded_by c ++ l) (ap (λ (r : ℕ). changes r (upstream s) (upstream (next_switch s c))) a.own
      ∙ changes-agree requester _ _ _ _ (λ q first last. (sym (a.hears q first last), sym (heard-accepted q first last))))))
      (λ z. subst (λ (x : SwitchEntry). SentBy requester x past) (sym (entry-refused s c z)) refl)

-- ---- every list of calls

record Inv (requester : ℕ) (r : SwitchRun) : Type 0 where
  agree : Agree requester r.switch r.past
  sent : Every (SentBy requester) r.past

keep : (requester : ℕ) (r : SwitchRun) (c : SwitchCall) → Inv requester r → Inv requester (switch_called r c)
unfolding switch_called
keep requester r c i = record {
  agree = record { own = requester-kept r.switch c ∙ i.agree.own; hears = heard-step requester r.switch c r.past i.agree };
  sent = every-cons (SentBy requester) (sent-step requester r.switch c r.past i.agree) i.sent;
}

agrees : (requester : ℕ) (calls : List SwitchCall) → Inv requester (switch_run (fresh requester) calls)
unfolding switch_run fresh heard
agrees requester calls =
    list_keeps switch_called (Inv requester) (keep requester) (record { switch = fresh requester; past = [] }) calls
    (record { agree = agree_fresh requester; sent = every-nil (SentBy requester) })

-- the upstream wires of a switch whose wires are active as a past says
pub driven_by : (s : Switch) (past : SwitchPast) → ((k p : ℕ) → k < 8 → 1 ≤ p → p ≤ 4 → (level s k p ≡ true) ↔ ActiveBy k p past)
    → (q : ℕ) → (upstream s q ≡ true) ↔ DrivenBy q past
driven_by s past wire q = (
  upstream_elim s q
      (λ k p a b c m on. record { port = k; pin = p; is_port = a; first = b; last = c; mapped = m; active = (wire k p a b c).0 on }),
  λ d. upstream-active s q d.port d.pin d.is_port d.first d.last d.mapped ((wire d.port d.pin d.is_port d.first d.last).1 d.active),
)

-- "The upstream wire is active while any port's mapped wire is": after any calls from a fresh switch the host has heard of each upstream pin
-- what its wire is
pub host_agrees : (requester : ℕ) (calls : List SwitchCall) (q : ℕ) → 1 ≤ q → q ≤ 4
    → let r : SwitchRun = switch_run (fresh requester) calls in
    heard q r.past ≡ upstream r.switch q
host_agrees requester calls q first last = (agrees requester calls).agree.hears q first last

-- The host has last heard an Assert of an upstream pin exactly if some port's wire that becomes it is active: its last accepted packet was an Assert,
-- and the port has not gone down since
pub upstream_history : (requester : ℕ) (calls : List SwitchCall) (q : ℕ) → 1 ≤ q → q ≤ 4
    → let r : SwitchRun = switch_run (fresh requester) calls in
    (heard q r.past ≡ true) ↔ DrivenBy q r.past
upstream_history requester calls q first last =
    let r = switch_run (fresh requester) calls in
    rw (host_agrees requester calls q first last) (driven_by r.switch r.past (port-wire requester calls) q)

-- "Each change of that, and nothing else, sends a wire packet, with the switch's requester ID, function part 0": each call from a fresh switch on,
-- if it was accepted, sent the message write that it passed and the changes of what the host has heard, in upstream pin order; if refused, nothing
pub changes-sent : (requester : ℕ) (calls : List SwitchCall)
    → Every (λ (x : SwitchEntry) (before : SwitchPast).
    x.bytes ≡ cond (is_accepted x.answer) (forwarded_by x.call ++ changes requester (λ q. heard q before) (λ q. heard q (x ∷ before))) [])
    (switch_run (fresh requester) calls).past
changes-sent requester calls = (agrees requester calls).sent
