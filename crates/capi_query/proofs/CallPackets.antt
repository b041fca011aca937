-- Every call's packets are read one after another: the wire's packet has a pin 1 to 4, and an open vector's message an address that is a multiple
-- of 4. Assumes nothing.
use mathlib.Core.Path.{◌≡◌, refl, sym, ap, ◌∙◌, subst}
use mathlib.Core.Bool.{Bool, true, false, not, ◌&&◌, true≢false, false≢true}
use mathlib.Core.List.{List, [], append-nil}
use mathlib.Core.Option.{Option, none, some}
use Prim.Native.Nat.{ℕ, ◌+◌, ◌-◌, ◌*◌, ◌/◌, ◌%◌, ◌^◌, ◌≤◌, ◌<◌}
use native.Mathlib.Omega.{arith}
use lib.Bits.{bit_and, and_comm, and_mask}
use lib.Dec.{eqb, ltb}
use lib.ListN.{length, take}
use lib.Seq.{take_at}
use borrow.Author.Tests.{eqb-true, eqb-false, ltb-true, ltb-false, not-true}
use Rattle.words.specs.Lists.{first_of, count}
use Rattle.words.specs.Bytes.{byte, number, word32, bytes_of, Bytes}
use Rattle.words.proofs.BoolLaws.{by_test, both, cond_elim}
use Rattle.words.proofs.ByteLaws.{word32-lt, word_past, bytes_of_lt}
use Rattle.words.proofs.ListLaws.{all-at, member-keep}
use Rattle.model.specs.declared.Mode.{Mode}
use Rattle.model.specs.declared.Mode.TheVariants.{Pin, Msi, Msix}
use Rattle.model.specs.declared.Shape.{Shape}
use Rattle.model.specs.Shape.{msi_present}
use Rattle.model.specs.Registers.{writable, stored_zero, msi_zero, entry_zero, entry_writable, in_table, config_written, bar_written}
use Rattle.model.specs.World.{World, Endpoint, Registers, registers, with_registers, with_line}
use Rattle.model.specs.Vectors.{command_bit, mode_of, granted, enabled, is_open, waits, vector_of, vector_count, owed}
use Rattle.model.specs.Packets.{msi_address, msi_upper, msi_data, entry_message, message_of}
use Rattle.model.specs.Release.{Raised, pin_number, is_pin, level_due, wire_due, wire_due_of, wire_change, bytes_for, sweep_bytes, settle_bytes, raise_vector, raise, raised_by}
use Rattle.model.specs.Sound.{shape, zero_bits}
use Rattle.model.specs.Ready.{Ready}
use Rattle.model.specs.Claims.{Typed}
use Rattle.model.specs.Calls.{Call, Outcome, config_read, config_write, bar_read, bar_write, event, line, reset, save, withdraw, is_save, changed, sends, step}
use Rattle.model.proofs.Registers.WriteLaws.{bytes-written}
use Rattle.model.proofs.Shapes.PlaceLaws.{in-msi, size_large}
use Rattle.model.proofs.Sound.SoundLaws.{Sound, is-sound}
use Rattle.model.proofs.Sound.StartLaws.{msi-high}
use Rattle.model.proofs.Vectors.SweepLaws.{open_parts, msi-present}
use Rattle.model.proofs.MessageData.{data-word}
use Rattle.model.proofs.Vectors.SettleLaws.{ready, pin-small}
use Rattle.model.proofs.Vectors.EventLaws.{event-bytes}
use Rattle.model.proofs.Calls.CallLaws.{Passed, step_elim}
use Rattle.model.proofs.Calls.Effects.{ready-config, ready_bar, ready-line, pin-written, event-below}
use Rattle.capi_query.specs.declared.packets.Fields.{Fields}
use Rattle.capi_query.specs.Claims.{packets_of, Walked}
use Rattle.capi_query.proofs.Walks.{Walks, Passes, message-passes, wire-passes, none_passes, both_pass, join-passes, walks, walk_rebuilds}

-- ---- address bits 1:0

-- a word whose lowest byte has the bits of mask 3 stored as 0
module _ (mask : ℕ → ℕ) (l : List ℕ) (i : ℕ) (z : zero_bits mask l ≡ true) (m : mask i ≡ 3) where
  byte-aligned : i < length l → byte l i % 4 ≡ 0
  unfolding zero_bits
  byte-aligned h =
      sym (and_mask (byte l i) 2) ∙ and_comm (byte l i) 3 ∙ ap (λ (x : ℕ). bit_and x (byte l i)) (sym m)
      ∙ eqb-true (bit_and (mask i) (byte l i)) 0 (all-at (λ k b. eqb (bit_and (mask k) b) 0) l i z h)

  word_aligned : word32 l i % 4 ≡ 0
  unfolding word32 number
  word_aligned =
      by_test (ltb i (length l)) (λ h. omega (arith, byte-aligned (ltb-true i (length l) h)))
      (λ h. rw (word_past l i (ltb-false i (length l) h)))

-- MSI's address, and an entry's
msi_mask : (s : Shape) → 64 ≤ s.msi.at → stored_zero s (s.msi.at + 4) ≡ 3
unfolding msi_zero first_of
msi_mask s h = (in-msi s (s.msi.at + 4) 4 h refl (omega (arith, size_large s))).1

entry-mask : (v : ℕ) → entry_zero (16 * v) ≡ 3
unfolding entry_zero first_of
entry-mask v = let e : 16 * v % 16 ≡ 0 = omega arith in rw e

-- ---- a function whose packets are read: its registers are bytes, and its requester ID has 16 bits

record Sends (s : Shape) (u : Endpoint) : Type 0 where
  ready : Ready s u
  config : Bytes u.function.config
  table : Bytes u.table
  requester : u.function.requester < 2 ^ 16

module _ (s : Shape) (u : Endpoint) (k : Sends s u) where
  abbrev r : Registers
  r = registers u

  msi-at : mode_of s r ≡ Msi → 64 ≤ s.msi.at
  msi-at e =
      let present : msi_present (shape u) ≡ true = ap msi_present k.ready.shaped ∙ msi-present s r e in
      rw k.ready.shaped at (msi-high u.function.config present)

  msi-upper : msi_upper s r < 2 ^ 32
  unfolding msi_upper
  msi-upper = cond_elim (λ (x : ℕ). x < 2 ^ 32) s.msi.wide (λ _. word32-lt r.config (s.msi.at + 8) k.config) (λ _. omega arith)

  -- the message of an open vector
  open_message : (m : Mode) (v : ℕ) → is_open m s r v ≡ true → Passes (message_of m s u.function.requester r v)
  unfolding message_of entry_message msi_address enabled
  open_message Pin v h = none_passes
  open_message Msi v h =
      let o = open_parts Msi s r v h in
      message-passes u.function.requester (msi_upper s r) (msi_address s r) (msi_data s r / granted s r * granted s r + v) k.requester
      msi-upper (word32-lt r.config (s.msi.at + 4) k.config) (data-word s r v (ltb-true v (granted s r) o.enable) k.config)
      (word_aligned (stored_zero s) r.config (s.msi.at + 4) k.ready.config (msi_mask s (msi-at o.force)))
  open_message Msix v h =
      message-passes u.function.requester (word32 r.table (16 * v + 4)) (word32 r.table (16 * v)) (word32 r.table (16 * v + 8)) k.requester
      (word32-lt r.table (16 * v + 4) k.table) (word32-lt r.table (16 * v) k.table) (word32-lt r.table (16 * v + 8) k.table)
      (word_aligned entry_zero r.table (16 * v) k.ready.table (entry-mask v))

  -- the messages of the open waiting vectors
  sweep_passes : Passes (sweep_bytes s u)
  unfolding sweep_bytes bytes_for owed
  sweep_passes =
      let m : Mode = mode_of s r in
      join-passes (message_of m s u.function.requester r) (owed m s u)
      (λ v e. open_message m v (both (is_open m s r v) (waits m u v) (both _ _ (sym (member-keep _ (count 0 (vector_count m s)) v) ∙ e)).0).0)

  -- an event's own message
  event-passes : (e : ℕ) → Passes (raised_by s u e).bytes
  unfolding raised_by raise raise_vector
  event-passes e = go (vector_of (mode_of s r) s r e)
    where
      go : (x : Option ℕ) → Passes (raise (mode_of s r) s u x).bytes
      go none = none_passes
      go (some v) =
          cond_elim (λ (x : Raised). Passes x.bytes) (is_open (mode_of s r) s r v) (open_message (mode_of s r) v)
          (λ _. cond_elim (λ (x : Raised). Passes x.bytes) (waits (mode_of s r) u v) (λ _. none_passes) (λ _. none_passes))

-- ---- the wire's packet: an active wire has a pin

due_pin : (s : Shape) (high : Bool) (r : Registers) → wire_due s high r ≡ true → 1 ≤ pin_number r
unfolding wire_due level_due
due_pin s high r e =
    let a = both (high && is_pin (mode_of s r) && not (eqb (pin_number r) 0)) (not (command_bit r 10)) e in
    let b = both (high && is_pin (mode_of s r)) (not (eqb (pin_number r) 0)) a.0 in
    let n : pin_number r ≡ 0 → ⊥ = eqb-false (pin_number r) 0 (not-true (eqb (pin_number r) 0) b.1) in
    omega (arith, n)

change_passes : (requester : ℕ) (r : Registers) (before after : Bool) → requester < 2 ^ 16 → pin_number r ≤ 4 → (before ≡ true → 1 ≤ pin_number r)
    → (after ≡ true → 1 ≤ pin_number r) → Passes (wire_change requester r before after)
unfolding wire_change
change_passes requester r true true q last f g = none_passes
change_passes requester r true false q last f g = wire-passes requester (pin_number r) false q (f refl) last
change_passes requester r false true q last f g = wire-passes requester (pin_number r) true q (g refl) last
change_passes requester r false false q last f g = none_passes

-- after a write or a line call: the wire's packet, then the messages
settle_passes : (s : Shape) (wire : Bool) (u : Endpoint) → Sends s u → (wire ≡ true → 1 ≤ pin_number (registers u)) → Passes (settle_bytes s wire u)
unfolding settle_bytes
settle_passes s wire u k f =
    both_pass (wire_change u.function.requester (registers u) wire (wire_due_of s u)) (sweep_bytes s u)
    (change_passes u.function.requester (registers u) wire (wire_due_of s u) k.requester (pin-small s u k.ready) f
    (due_pin s u.function.line (registers u)))
    (sweep_passes s u k)

-- ---- every call

module _ (w : World) (t : Typed w) (b : Bytes w.endpoint.table) where
  abbrev u : Endpoint
  u = w.endpoint

  module _ (k : Sound w) where
    as_is : Sends (shape u) u
    as_is = record { ready = ready u k.endpoint; config = t.arrays.bytes; table = b; requester = t.requester }

    -- the wire is active: its packet has been sent
    active-pin : w.wire ≡ true → 1 ≤ pin_number (registers u)
    active-pin e = due_pin (shape u) u.function.line (registers u) (sym k.wire ∙ e)

    config-sends : (o : ℕ) (bs : List ℕ) → Bytes bs → Sends (shape u) (with_registers u (config_written (shape u) (registers u) o bs))
    config-sends o bs h = record {
      ready = ready-config u k.endpoint o bs;
      config = bytes-written (writable (shape u)) u.function.config o bs t.arrays.bytes h;
      table = b;
      requester = t.requester;
    }

    bar-sends : (bar o : ℕ) (bs : List ℕ) → Bytes bs → Sends (shape u) (with_registers u (bar_written (shape u) (registers u) bar o bs))
    bar-sends bar o bs h = record {
      ready = ready_bar u k.endpoint bar o bs;
      config = t.arrays.bytes;
      table =
          cond_elim Bytes (in_table (shape u) bar o) (λ _. bytes-written entry_writable u.table (o - (shape u).msix.table.at) bs b h) (λ _. b);
      requester = t.requester;
    }

    line-sends : (level : Bool) → Sends (shape u) (with_line u level)
    line-sends level = record { ready = ready-line u k.endpoint level; config = t.arrays.bytes; table = b; requester = t.requester }

  sends-passes : (c : Call) → is_save c ≡ false → Passed w c → Passes (sends w c)
  unfolding sends changed is_save pin_number
  sends-passes (config_read o n) s p = none_passes
  sends-passes (config_write o n x out) s p =
      let k = is-sound w p.is_sound in
      settle_passes (shape u) w.wire _ (config-sends k o (bytes_of n x) (bytes_of_lt n x))
      (λ e. rw (pin-written u k.endpoint o (bytes_of n x)) (active-pin k e))
  sends-passes (bar_read bar o n) s p = none_passes
  sends-passes (bar_write bar o n x out) s p =
      let k = is-sound w p.is_sound in
      settle_passes (shape u) w.wire _ (bar-sends k bar o (bytes_of n x) (bytes_of_lt n x)) (active-pin k)
  sends-passes (event e out) s p =
      let k = is-sound w p.is_sound in
      rw (event-bytes w k e (event-below u e out p.own), append-nil) (event-passes (shape u) u (as_is k) e)
  sends-passes (line level out) s p =
      let k = is-sound w p.is_sound in
      settle_passes (shape u) w.wire _ (line-sends k level) (active-pin k)
  sends-passes (reset out) s p =
      let k = is-sound w p.is_sound in
      change_passes u.function.requester (registers u) w.wire false t.requester (pin-small (shape u) u (as_is k).ready) (active-pin k) (λ z. absurd (false≢true z))
  sends-passes (save out) s p = absurd (true≢false s)
  sends-passes (withdraw v) s p = none_passes

  -- the bytes that a call other than a save puts into its output are read packet by packet, and the packets read make exactly these bytes
  pub call-packets : (c : Call) → is_save c ≡ false
      → let r : Outcome = step w c in
      let bytes : List ℕ = take r.count r.output in
      (fs : List Fields) × Walked bytes fs × (packets_of fs ≡ bytes)
  call-packets c s =
      let r = step_elim w c (λ (r : Outcome). Walks (take r.count r.output))
      (λ p. subst Walks (sym (take_at (sends w c) _ _ refl)) (walks (sends w c) (sends-passes c s p)))
      (λ n _. walks [] none_passes) in
      (r.0, r.1, walk_rebuilds r.1)
