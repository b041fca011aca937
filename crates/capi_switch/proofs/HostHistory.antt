-- Document 02, request [4], of what a host calls: after every list of calls through the interface the bytes that a host holds have the wires of the
-- history, and it was sent each change of an upstream wire and nothing else. Assumes nothing.
use mathlib.Core.Path.{◌≡◌, refl, sym, ap, ◌∙◌}
use mathlib.Core.Bool.{Bool, true, false, cond, ◌||◌}
use mathlib.Core.List.{List, [], ◌∷◌, ◌++◌}
use mathlib.Core.Logic.{◌↔◌}
use Prim.Native.Nat.{ℕ, ◌+◌, ◌-◌, ◌^◌, ◌≤◌, ◌<◌}
use native.Mathlib.Omega.{arith}
use lib.ListN.{get_or-append}
use Rattle.words.specs.Bits.{bit}
use Rattle.words.proofs.BoolLaws.{neither, or_intro}
use Rattle.model.specs.Answers.{is_accepted}
use Rattle.model.specs.Since.{Every}
use Rattle.model.proofs.History.SinceLaws.{every-nil, every-cons}
use Rattle.model.proofs.History.Machine.{Law, bit_after, bit-iff, list_keeps}
use Rattle.switch.specs.declared.Switch.{Switch}
use Rattle.switch.specs.Switches.{fresh, level}
use Rattle.switch.specs.Calls.{SwitchCall, changes, forwarded_by, switch_step}
use Rattle.switch.specs.History.{SwitchEntry, entry_of, SwitchPast, packet_for, assert_for, went_down, ActiveBy, DrivenBy, heard}
use Rattle.switch.specs.Claims.{Shaped}
use Rattle.switch.proofs.SwitchLaws.{shaped_fresh, level-fresh}
use Rattle.switch.proofs.StepLaws.{shaped-kept, requester-kept}
use Rattle.switch.proofs.PortWire.{made, cleared, bit-refused, level-step}
use Rattle.switch.proofs.HostAgrees.{SentBy, Agree, agree_fresh, sent-refused, heard-refused, heard-step, sent-step, driven_by}
use Rattle.capi_switch.specs.Crossing.{switch_bytes, started}
use Rattle.capi_switch.specs.Hosts.{Lent, HostRun, host_called, host_run, wire_bit}
use Rattle.capi_switch.proofs.CrossingFor.{switch_ten}
use Rattle.capi_switch.proofs.BytesExact.{switch_bits}
use Rattle.capi_switch.proofs.Refused.{started_exact, start-leaves}
use Rattle.capi_switch.proofs.HostStep.{entered, refused_entry, host_elim}

-- a wire by the bytes that are held of a switch, and others behind them
held-level : (l : List ℕ) (s : Switch) (rest : List ℕ) → l ≡ switch_bytes s ++ rest → (k p : ℕ) → k < 8 → 1 ≤ p → p ≤ 4 → wire_bit l k p ≡ level s k p
unfolding wire_bit
held-level l s rest e k p port first last =
    ap (λ (l : List ℕ). wire_bit l k p) e
    ∙ ap (λ (x : ℕ). bit x (p - 1)) (get_or-append (switch_bytes s) rest 0 (2 + k) (omega (arith, switch_ten s, port)))
    ∙ switch_bits s k p port first last

-- ---- what every call keeps

-- the bytes are a switch's, which agrees with the past, and each call sent what it should
record Good (requester : ℕ) (rest : List ℕ) (h : HostRun) : Type 0 where
  switch : Switch
  bytes : h.held ≡ switch_bytes switch ++ rest
  shaped : Shaped switch
  agree : Agree requester switch h.past
  sent : Every (SentBy requester) h.past

module _ (requester : ℕ) (rest : List ℕ) (h : HostRun) (i : Good requester rest h) (c : SwitchCall) where
  accepted-good : Good requester rest (entered h (switch_bytes (switch_step i.switch c).switch ++ rest) (entry_of c (switch_step i.switch c)))
  accepted-good =
      let s = i.switch in
      record {
        switch = (switch_step s c).switch;
        bytes = refl;
        shaped = shaped-kept s c i.shaped;
        agree = record { own = requester-kept s c ∙ i.agree.own; hears = heard-step requester s c h.past i.agree };
        sent = every-cons (SentBy requester) (sent-step requester s c h.past i.agree) i.sent;
      }

  refused-good : (n : ℕ) → Good requester rest (entered h h.held (refused_entry c n))
  refused-good n = record {
    switch = i.switch;
    bytes = i.bytes;
    shaped = i.shaped;
    agree =
        record {
          own = i.agree.own;
          hears = λ q first last. heard-refused requester i.switch c h.past i.agree q n ∙ i.agree.hears q first last;
        };
    sent = every-cons (SentBy requester) (sent-refused requester c n h.past) i.sent;
  }

-- ---- one call

module _ (requester : ℕ) (wide : requester < 2 ^ 16) (rest : List ℕ) where
  good-kept : (h : HostRun) (x : Lent) → Good requester rest h → Good requester rest (host_called h x)
  good-kept h x i =
      host_elim h i.switch rest i.bytes i.shaped (rw i.agree.own wide) x (Good requester rest)
      (accepted-good requester rest h i x.called) (refused-good requester rest h i x.called)

  module _ (k p : ℕ) (port : k < 8) (first : 1 ≤ p) (last : p ≤ 4) where
    abbrev LawOf : HostRun → HostRun → Type 0
    LawOf = Law host_called (λ h. h.past) (λ h. wire_bit h.held k p) (Good requester rest) (made k p) (cleared k p)

    call_law : (h : HostRun) (x : Lent) → Good requester rest h → LawOf h (host_called h x)
    call_law h x i =
        let s = i.switch in
        let c = x.called in
        let y = entry_of c (switch_step s c) in
        host_elim h s rest i.bytes i.shaped (rw i.agree.own wide) x (LawOf h)
        (record {
          entry = y;
          longer = refl;
          good = accepted-good requester rest h i c;
          wait =
              held-level (switch_bytes (switch_step s c).switch ++ rest) (switch_step s c).switch rest refl k p port first last
              ∙ level-step k p first s c i.shaped
              ∙ ap (λ (was : Bool). bit_after (assert_for k p y) was (packet_for k p y || went_down k y)) (sym (held-level h.held s rest i.bytes k p port first last));
        })
        (λ n. record { entry = refused_entry c n; longer = refl; good = refused-good requester rest h i c n; wait = bit-refused k p c n (wire_bit h.held k p) })

-- ---- every list of calls

-- an accepted start, and what a host holds behind the switch's bytes
module _ (l : List ℕ) (requester : ℕ) (e : (started l requester).refusal ≡ 0) (rest : List ℕ) where
  abbrev begun : List ℕ
  begun = (started l requester).switch ++ rest

  begins : begun ≡ switch_bytes (fresh requester) ++ rest
  begins = ap (λ (b : List ℕ). b ++ rest) (start-leaves l requester e)

  abbrev first_run : HostRun
  first_run = record { held = begun; past = [] }

  first_good : Good requester rest first_run
  first_good = record {
    switch = fresh requester;
    bytes = begins;
    shaped = shaped_fresh requester;
    agree = agree_fresh requester;
    sent = every-nil (SentBy requester);
  }

  abbrev wide : requester < 2 ^ 16
  wide = ((started_exact l requester).0 e).1

  all-good : (calls : List Lent) → Good requester rest (host_run begun calls)
  unfolding host_run
  all-good calls = list_keeps host_called (Good requester rest) (good-kept requester wide rest) first_run calls first_good

  -- "After any calls from a fresh switch, each given it as the last left it, a port's wire is active exactly if the last accepted packet for it was an
  -- Assert and the port has not gone down since": so say the bytes that a host holds, whatever it calls and lends
  pub host-wire : (calls : List Lent) (k p : ℕ) → k < 8 → 1 ≤ p → p ≤ 4
      → let r : HostRun = host_run ((started l requester).switch ++ rest) calls in
      (wire_bit r.held k p ≡ true) ↔ ActiveBy k p r.past
  unfolding host_run
  host-wire calls k p port first last =
      bit-iff host_called (λ h. h.past) (λ h. wire_bit h.held k p) (Good requester rest) (made k p) (cleared k p)
      (λ x before. (packet_for k p x ≡ false) × (went_down k x ≡ false))
      (λ x before. (neither (packet_for k p x) (went_down k x), λ b. or_intro (packet_for k p x) (went_down k x) b.0 b.1))
      (call_law requester wide rest k p port first last) first_run first_good refl
      (held-level begun (fresh requester) rest begins k p port first last ∙ level-fresh requester k p) calls

  -- "The upstream wire is active while any port's mapped wire is": a host has last been sent an Assert of an upstream pin exactly if some port's wire
  -- that becomes it is active: its last accepted packet was an Assert, and the port has not gone down since
  pub host-upstream : (calls : List Lent) (q : ℕ) → 1 ≤ q → q ≤ 4
      → let r : HostRun = host_run ((started l requester).switch ++ rest) calls in
      (heard q r.past ≡ true) ↔ DrivenBy q r.past
  host-upstream calls q first last =
      let r : HostRun = host_run ((started l requester).switch ++ rest) calls in
      let i : Good requester rest r = all-good calls in
      rw (i.agree.hears q first last)
      (driven_by i.switch r.past
      (λ k p a b c. rw (← held-level r.held i.switch rest i.bytes k p a b c) (host-wire calls k p a b c)) q)

  -- "Each change of that, and nothing else, sends a wire packet, with the switch's requester ID, function part 0": each call of a host from a start on,
  -- if it was accepted, sent the message write that it passed and the changes of what the host has heard, in upstream pin order; if refused, nothing
  pub host-changes : (calls : List Lent)
      → Every (λ (x : SwitchEntry) (before : SwitchPast).
      x.bytes ≡ cond (is_accepted x.answer) (forwarded_by x.call ++ changes requester (λ q. heard q before) (λ q. heard q (x ∷ before))) [])
      (host_run ((started l requester).switch ++ rest) calls).past
  host-changes calls = (all-good calls).sent
