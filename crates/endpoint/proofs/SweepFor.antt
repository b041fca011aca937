-- The sweep of each mechanism, as the code finds it. Assumes nothing.
use mathlib.Core.Path.{◌≡◌, refl, sym, ap, ◌∙◌}
use mathlib.Core.Bool.{Bool, true, false, not, ◌&&◌, false≢true}
use mathlib.Core.List.{List, []}
use Prim.Native.Nat.{ℕ, ◌+◌, ◌≤◌, ◌<◌, ◌^◌}
use native.Mathlib.Omega.{arith}
use lib.Dec.{ltb}
use lib.ListN.{length}
use borrow.Author.Tests.{lt-ltb, ltb-true, ltb-false}
use Rattle.words.specs.Lists.{join, keep, count, member}
use Rattle.words.specs.Bits.{bit, clear}
use Rattle.words.specs.Writers.{Wrote}
use Rattle.words.proofs.BitLaws.{bit_above}
use Rattle.words.proofs.BoolLaws.{both, by_test}
use Rattle.words.proofs.ListLaws.{keep_same, member-count, count-member, member-keep, join-same}
use Rattle.model.proofs.Vectors.SweepLaws.{open_parts, owed-member, owed-below}
use Rattle.model.specs.declared.Mode.{Mode}
use Rattle.model.specs.declared.Mode.TheVariants.{Pin, Msi, Msix}
use Rattle.model.specs.declared.Shape.{Shape}
use Rattle.model.specs.Shape.{table_bytes}
use Rattle.model.specs.World.{Endpoint, registers, with_waiting, endpoint_of}
use Rattle.model.specs.Vectors.{owed, is_open, waits, masked, vector_count, mode_of, in_force, msix_control_bit, msi_control_bit, enabled, granted, enable_field, command_bit, entry_masked, pending_bit}
use Rattle.model.specs.declared.Function.{Function}
use Rattle.endpoint.specs.declared.sweep.Sent.{Sent}
use Rattle.model.specs.Packets.{message, message_of, msi_upper, msi_address, data_extended, msi_data, entry_message}
use Rattle.model.specs.Release.{owed_now, swept, sweep_bytes, clear_all, bytes_for, swept_for}
use Rattle.vectors.specs.Given.{regs}
use Rattle.vectors.specs.Enabled.{msix_enabled}
use Rattle.vectors.specs.Messages.{msi_base}
use Rattle.vectors.specs.declared.message.Message.{Message}
use Rattle.vectors.proofs.MessageLaws.{base_message}
use Rattle.vectors.proofs.CountLaws.{enabled-granted}
use Rattle.vectors.proofs.MsixLaws.{open_msix}
use Rattle.vectors.proofs.OpenLaws.{owed_shut}
use Rattle.release.specs.Owed.{set_bits, msi_packets, entries, owes, owed_entries, entry_packets, clear_pending, Released}
use Rattle.release.proofs.OwedLaws.{entries_fit}
use Rattle.release.proofs.Clearing.{clear-msix, clear-msi}
use Rattle.endpoint.specs.Sweeps.{Swept}

-- ---- the mechanism in force

pub bytes-mode : (m : Mode) (s : Shape) (u : Endpoint) → mode_of s (registers u) ≡ m → bytes_for m s u ≡ sweep_bytes s u
unfolding bytes_for sweep_bytes owed_now
bytes-mode m s u e = rw e

pub swept-mode : (m : Mode) (s : Shape) (u : Endpoint) → mode_of s (registers u) ≡ m → swept_for m s u ≡ swept s u
unfolding swept_for swept owed_now
swept-mode m s u e = rw e

-- the pin sends nothing
pub pin-bytes : (s : Shape) (u : Endpoint) → [] ≡ bytes_for Pin s u
unfolding bytes_for owed vector_count keep count join
pin-bytes s u = refl

pub pin-swept : (s : Shape) (u : Endpoint) → u ≡ swept_for Pin s u
unfolding swept_for owed vector_count keep count clear_all
pin-swept s u = refl

-- ---- MSI: w has a bit for each open waiting vector

pub msi-bytes : (s : Shape) (u : Endpoint) (w : ℕ) (b : Message) → owed Msi s u ≡ set_bits 32 w → b ≡ msi_base s (registers u)
    → bytes_for Msi s u ≡ msi_packets u.function.requester b.upper b.address b.value w
unfolding bytes_for
msi-bytes s u w b e q =
    ap (join (message_of Msi s u.function.requester (registers u))) e
    ∙ join-same (message_of Msi s u.function.requester (registers u)) (λ v. message u.function.requester b.upper b.address (b.value + v)) (set_bits 32 w)
    (λ v. sym (base_message s (registers u) u.function.requester v) ∙ ap (λ (x : Message). message u.function.requester x.upper x.address (x.value + v)) (sym q))

-- each of them is granted
pub owed-granted : (s : Shape) (u : Endpoint) (w v : ℕ) → owed Msi s u ≡ set_bits 32 w → w < 2 ^ 32 → bit w v ≡ true → v < granted s (registers u)
owed-granted s u w v e h b =
    let within : v < 32 = by_test (ltb v 32) (ltb-true v 32) (λ t. absurd (false≢true (sym (bit_above 32 w v h (ltb-false v 32 t)) ∙ b))) in
    let listed : member v (set_bits 32 w) ≡ true = member-keep (bit w) (count 0 32) v ∙ rw (b, count-member 0 32 v (omega arith) within) in
    let mine : member v (owed Msi s u) ≡ true = ap (member v) e ∙ listed in
    let owes = sym (owed-member Msi s u v (owed-below Msi s u v mine)) ∙ mine in
    let opened = (both (is_open Msi s (registers u) v) (waits Msi u v) owes).0 in
    enabled-granted s u.function.config u.table v (open_parts Msi s (registers u) v opened).enable u.table

pub msi-swept : (s : Shape) (u : Endpoint) (w : ℕ) → owed Msi s u ≡ set_bits 32 w → w < 2 ^ 32 → swept_for Msi s u ≡ with_waiting u (clear w u.function.waiting) u.pending
unfolding swept_for
msi-swept s u w e h = ap (clear_all Msi u) e ∙ clear-msi 32 w u h

-- ---- MSI-X

pub off_bytes : (s : Shape) (u : Endpoint) → msix_enabled s (registers u) ≡ false → [] ≡ bytes_for Msix s u
unfolding bytes_for join
off_bytes s u e = rw (owed_shut s u e)

pub off_swept : (s : Shape) (u : Endpoint) → msix_enabled s (registers u) ≡ false → u ≡ swept_for Msix s u
unfolding swept_for clear_all
off_swept s u e = rw (owed_shut s u e)

module _ (s : Shape) (u : Endpoint) (on : msix_enabled s (registers u) ≡ true) (fit : length u.table ≡ table_bytes s) where
  open_here : (v : ℕ) → v < s.msix.vectors → is_open Msix s (registers u) v ≡ not (entry_masked u.table v)
  unfolding masked entry_masked
  open_here v h = open_msix s (registers u) v ∙ rw (on, lt-ltb v s.msix.vectors h)

  pub owed_here : owed Msix s u ≡ owed_entries u.table u.pending (entries u.table)
  unfolding owed owed_entries vector_count owes waits pending_bit
  owed_here =
      keep_same (λ v. is_open Msix s (registers u) v && waits Msix u v) (owes u.table u.pending) (count 0 s.msix.vectors)
      (λ v m. ap (λ (b : Bool). b && waits Msix u v) (open_here v (let p = member-count 0 s.msix.vectors v m in omega arith)))
      ∙ ap (λ (n : ℕ). keep (owes u.table u.pending) (count 0 n)) (sym (entries_fit s u.table fit))

  pub msix-bytes : bytes_for Msix s u ≡ entry_packets u.function.requester u.table (owed_entries u.table u.pending (entries u.table))
  unfolding bytes_for message_of entry_message
  msix-bytes = ap (join (message_of Msix s u.function.requester (registers u))) owed_here

  pub msix-swept : swept_for Msix s u ≡ with_waiting u u.function.waiting (clear_pending u.pending (owed_entries u.table u.pending (entries u.table)))
  unfolding swept_for
  msix-swept = ap (clear_all Msix u) owed_here ∙ clear-msix u (owed_entries u.table u.pending (entries u.table))

-- ---- what the senders promise

pub msi-sent : (s : Shape) (u : Endpoint) (w n waiting : ℕ) (b : Message) (o o' : List ℕ) → owed Msi s u ≡ set_bits 32 w → b ≡ msi_base s (registers u) → w < 2 ^ 32
    → waiting ≡ clear w u.function.waiting → Wrote (msi_packets u.function.requester b.upper b.address b.value w) o n o'
    → Swept (bytes_for Msi s u) u (swept_for Msi s u) o (record { waiting = waiting; count = n }) u.pending o'
msi-sent s u w n waiting b o o' e q h k r = record {
  sent = rw (msi-bytes s u w b e q) r;
  left = ap (λ (x : ℕ). with_waiting u x u.pending) k ∙ sym (msi-swept s u w e h);
}

pub msix-sent : (s : Shape) (u : Endpoint) (n : ℕ) (o p' o' : List ℕ) → msix_enabled s (registers u) ≡ true → length u.table ≡ table_bytes s
    → Released u.function.requester u.table (owed_entries u.table u.pending (entries u.table)) u.pending o n p' o'
    → Swept (bytes_for Msix s u) u (swept_for Msix s u) o (record { waiting = u.function.waiting; count = n }) p' o'
msix-sent s u n o p' o' on fit r = record {
  sent = rw (msix-bytes s u on fit) r.sent;
  left = ap (with_waiting u u.function.waiting) r.cleared ∙ sym (msix-swept s u on fit);
}

-- nothing sent, nothing cleared
pub none-sent : (bytes : List ℕ) (u u' : Endpoint) (o : List ℕ) → [] ≡ bytes → u ≡ u' → Swept bytes u u' o (record { waiting = u.function.waiting; count = 0 }) u.pending o
none-sent bytes u u' o e q = record { sent = rw (← e) (record { count = refl; bytes = refl }); left = q }

-- MSI's bytes do not depend on the buffers
pub msi_anywhere : (s : Shape) (f : Function) (t p t' p' : List ℕ) → bytes_for Msi s (endpoint_of f t p) ≡ bytes_for Msi s (endpoint_of f t' p')
unfolding
    bytes_for owed vector_count is_open in_force mode_of msix_control_bit msi_control_bit enabled granted enable_field masked command_bit waits
    message_of msi_upper msi_address data_extended msi_data entry_masked entry_message pending_bit
msi_anywhere s f t p t' p' = refl

pub msix-room : (s : Shape) (f : Function) (t p : List ℕ) (n : ℕ) → msix_enabled s (regs f.config t) ≡ true → length t ≡ table_bytes s
    → length (bytes_for Msix s (endpoint_of f t p)) ≤ n → length (entry_packets f.requester t (owed_entries t p (entries t))) ≤ n
msix-room s f t p n on fit h = rw (msix-bytes s (endpoint_of f t p) on fit) at h

-- ---- from a mechanism to the one in force

pub mode-room : (m : Mode) (s : Shape) (u : Endpoint) (n : ℕ) → mode_of s (registers u) ≡ m → length (sweep_bytes s u) ≤ n → length (bytes_for m s u) ≤ n
mode-room m s u n e h = rw (bytes-mode m s u e) h

pub msi-room : (s : Shape) (f : Function) (t p t' p' : List ℕ) (n : ℕ) → mode_of s (regs f.config t) ≡ Msi → length (sweep_bytes s (endpoint_of f t p)) ≤ n
    → length (bytes_for Msi s (endpoint_of f t' p')) ≤ n
msi-room s f t p t' p' n e h = rw (msi_anywhere s f t' p' t p) (mode-room Msi s (endpoint_of f t p) n e h)

pub swept_by : (m : Mode) (s : Shape) (u : Endpoint) (o : List ℕ) (r : Sent) (p' o' : List ℕ) → mode_of s (registers u) ≡ m
    → Swept (bytes_for m s u) u (swept_for m s u) o r p' o' → Swept (sweep_bytes s u) u (swept s u) o r p' o'
swept_by m s u o r p' o' e w = rw (← bytes-mode m s u e, ← swept-mode m s u e) w
