-- One call of a host that holds the bytes of a switch: refused, it leaves every byte that the host holds and sends nothing; accepted, it was lent the
-- whole switch and no more, and leaves the bytes of the next one. Assumes nothing.
use mathlib.Core.Path.{◌≡◌, sym, ap, ◌∙◌, subst}
use mathlib.Core.Bool.{true}
use mathlib.Core.List.{List, [], ◌∷◌, ◌++◌, append-nil}
use Prim.Native.Nat.{ℕ, ◌^◌, ◌≤◌, ◌<◌}
use native.Mathlib.Nat.{min-le_left}
use native.Mathlib.Omega.{arith}
use lib.ListN.{length, take, drop, length-append, length-take, take-append-drop, drop_of_length-le}
use lib.Seq.{take_all, take_at, drop_at}
use borrow.Author.Tests.{ne_eqb}
use Rattle.model.specs.declared.Answer.TheVariants.{Refused}
use Rattle.switch.specs.declared.Switch.{Switch}
use Rattle.switch.specs.Calls.{SwitchCall, Switched, next_switch, sends, output_of, refusal, accepted, switch_step}
use Rattle.switch.specs.History.{SwitchEntry, entry_of}
use Rattle.switch.specs.Claims.{Shaped}
use Rattle.switch.proofs.StepLaws.{step-accepted}
use Rattle.capi_switch.specs.Crossing.{switch_bytes, switch_in, is_switch, Crossed}
use Rattle.capi_switch.specs.Hosts.{Lent, left, answer_of, HostRun, host_called}
use Rattle.capi_switch.proofs.CrossingFor.{switch-length, switch_ten}
use Rattle.capi_switch.proofs.BytesExact.{switch-reads}
use Rattle.capi_switch.proofs.Refused.{refused_with, accepted_on, call_elim}

-- a switch's bytes were lent of what begins with a switch's bytes: those, and the rest was not
lent_whole : (n : ℕ) (b rest : List ℕ) → is_switch (take n (b ++ rest)) ≡ true → length b ≡ 10 → (take n (b ++ rest) ≡ b) × (drop n (b ++ rest) ≡ rest)
lent_whole n b [] e ten =
    let lent = length-take n (b ++ []) in
    let h : length (b ++ []) ≤ n = omega (arith, min-le_left n (length (b ++ [])), lent, switch-length (take n (b ++ [])) e, length-append b [], ten) in
    (take_all n (b ++ []) h ∙ append-nil b, drop_of_length-le (b ++ []) h)
lent_whole n b (y ∷ rest) e ten =
    let lent = length-take n (b ++ y ∷ rest) in
    let ten' : length b ≡ n = omega (arith, lent, switch-length (take n (b ++ y ∷ rest)) e, length-append b (y ∷ rest), ten) in
    (take_at b (y ∷ rest) n ten', drop_at b (y ∷ rest) n ten')

-- a host with other bytes and one entry more
abbrev pub entered : HostRun → List ℕ → SwitchEntry → HostRun
entered h held x = record { held = held; past = x ∷ h.past }

-- the entry of a refused call
abbrev pub refused_entry : SwitchCall → ℕ → SwitchEntry
refused_entry c n = record { call = c; answer = Refused n; bytes = [] }

-- a host that holds the bytes of a switch, and others behind them
module _ (h : HostRun) (s : Switch) (rest : List ℕ) (e : h.held ≡ switch_bytes s ++ rest) (shape : Shaped s) (w : s.requester < 2 ^ 16) (x : Lent) where
  abbrev c : SwitchCall
  c = x.called

  abbrev lent : List ℕ
  lent = take x.switch h.held

  -- the host after a call that handed back r
  abbrev after : Crossed → HostRun
  after r = entered h (left h.held x r) (record { call = c; answer = answer_of r; bytes = take r.count r.output })

  -- and after the call r of the switch that the bytes hold
  abbrev stepped : Switched → HostRun
  stepped r = entered h (switch_bytes r.switch ++ rest) (entry_of c r)

  goes : is_switch lent ≡ true → refusal (switch_in lent) c ≡ 0 → after (accepted_on (switch_in lent) c) ≡ stepped (switch_step s c)
  goes b z =
      let whole = lent_whole x.switch (switch_bytes s) rest (ap (λ (l : List ℕ). is_switch (take x.switch l)) (sym e) ∙ b) (switch_ten s) in
      let same : switch_in lent ≡ s = ap (λ (l : List ℕ). switch_in (take x.switch l)) e ∙ ap switch_in whole.0 ∙ switch-reads s shape w in
      let behind : drop x.switch h.held ≡ rest = ap (drop x.switch) e ∙ whole.1 in
      let entry : Switch → SwitchEntry = λ t. entry_of c (accepted (next_switch t c) (sends t c) (output_of c)) in
      (λ i. entered h (switch_bytes (next_switch (same i) c) ++ behind i) (entry (same i)))
      ∙ ap stepped (sym (step-accepted s c (ap (λ (t : Switch). refusal t c) (sym same) ∙ z)))

  stays : (n : ℕ) → (n ≡ 0 → ⊥) → after (refused_with lent c n) ≡ entered h h.held (refused_entry c n)
  stays n z = rw (ne_eqb n 0 z, take-append-drop)

  -- what is so after the call of the switch that the bytes hold, and after a refusal that leaves the bytes, is so after the call of the host
  pub host_elim : (P : HostRun → Type 0) → P (stepped (switch_step s c)) → ((n : ℕ) → P (entered h h.held (refused_entry c n))) → P (host_called h x)
  unfolding host_called
  host_elim P f g = call_elim lent c (λ (r : Crossed). P (after r)) (λ b z. subst P (sym (goes b z)) f) (λ n z. subst P (sym (stays n z)) (g n))
