-- A write of one table entry sends at most that vector's message. Assumes nothing.
use mathlib.Core.Path.{◌≡◌, refl, sym, ap, ap₂, ◌∙◌}
use mathlib.Core.Bool.{Bool, true, false, cond, ◌&&◌, true≢false, false≢true}
use mathlib.Core.List.{List, [], ◌∷◌, append-nil}
use Prim.Native.Nat.{ℕ, ◌+◌, ◌*◌, ◌≤◌, ◌<◌}
use native.Mathlib.Omega.{arith}
use lib.Dec.{eqb}
use lib.ListN.{length}
use Rattle.words.specs.Lists.{keep, count, within, join}
use Rattle.words.specs.Bits.{bit, clear_bit}
use Rattle.words.specs.Bytes.{bit_at}
use Rattle.words.proofs.BoolLaws.{both, by_test}
use Rattle.words.proofs.ListLaws.{keep_here, keep-none, member-count, within-true}
use Rattle.model.specs.declared.Mode.{Mode}
use Rattle.model.specs.declared.Mode.TheVariants.{Pin, Msi, Msix}
use Rattle.model.specs.declared.Shape.{Shape}
use Rattle.model.specs.Shape.{msix_present, table_bytes}
use Rattle.model.specs.Registers.{entry_writable, written, in_region, in_table}
use Rattle.model.specs.World.{World, Endpoint, registers, with_registers}
use Rattle.model.specs.Vectors.{mode_of, in_force, same_mode, is_open, enabled, masked, entry_masked, waits, change_waiting, owed, vector_count}
use Rattle.model.specs.Vectors.{command_bit, msi_control_bit, msix_control_bit, granted, enable_field}
use Rattle.model.specs.Packets.{message_of}
use Rattle.model.specs.Release.{owed_now, swept, clear_all, sweep_bytes, wire_due, wire_due_of, pin_number, swept_for, bytes_for, level_due}
use Rattle.model.specs.Sound.{shape}
use Rattle.model.proofs.Registers.WriteLaws.{outside-written}
use Rattle.model.proofs.Vectors.WaitingLaws.{waits-same}
use Rattle.model.proofs.Vectors.SweepLaws.{open_parts, force_refl, in-force}
use Rattle.model.proofs.Sound.SoundLaws.{SoundEndpoint, Sound}
use Rattle.model.proofs.Vectors.EventLaws.{open_idle}

-- a place in the table
pub in-table : (s : Shape) (b o : ℕ) → in_table s b o ≡ true → (s.msix.table.at ≤ o) × (o < s.msix.table.at + table_bytes s)
unfolding in_table in_region
in-table s b o e =
    within-true s.msix.table.at (table_bytes s) o
    (both (eqb b s.msix.table.bar) (within s.msix.table.at (table_bytes s) o)
    (both (msix_present s) (eqb b s.msix.table.bar && within s.msix.table.at (table_bytes s) o) e).1).1

-- ---- the mechanism in force and the wire do not look at the table

pub mode-table : (s : Shape) (c t t' : List ℕ) → mode_of s (record { config = c; table = t' }) ≡ mode_of s (record { config = c; table = t })
unfolding mode_of msix_control_bit msi_control_bit
mode-table s c t t' = refl

pub wire-table : (s : Shape) (line : Bool) (c t t' : List ℕ) → wire_due s line (record { config = c; table = t' }) ≡ wire_due s line (record { config = c; table = t })
unfolding wire_due mode_of msix_control_bit msi_control_bit command_bit pin_number level_due
wire-table s line c t t' = refl

-- an MSI vector is open whatever the table
open_table : (s : Shape) (c t t' : List ℕ) (v : ℕ) → is_open Msi s (record { config = c; table = t' }) v ≡ is_open Msi s (record { config = c; table = t }) v
unfolding is_open in_force mode_of msix_control_bit msi_control_bit enabled granted enable_field masked command_bit entry_masked
open_table s c t t' v = refl

-- an MSI-X one, by its own mask bit alone
open_mask : (s : Shape) (c t t' : List ℕ) (v : ℕ) → bit_at t' (16 * v + 12) 0 ≡ bit_at t (16 * v + 12) 0
    → is_open Msix s (record { config = c; table = t' }) v ≡ is_open Msix s (record { config = c; table = t }) v
unfolding is_open in_force mode_of msix_control_bit msi_control_bit enabled masked command_bit entry_masked
open_mask s c t t' v e = rw e

-- ---- a write of bytes of entry v

module _ (u : Endpoint) (k : SoundEndpoint u) (at : ℕ) (bs : List ℕ) (v : ℕ) (lo : 16 * v ≤ at) (hi : at + length bs ≤ 16 * v + 16) (few : v < (shape u).msix.vectors) where
  abbrev t' : List ℕ
  t' = written entry_writable u.table at bs

  abbrev u' : Endpoint
  u' = with_registers u (record { config = u.function.config; table = t' })

  mask_other : (x : ℕ) → (x ≡ v → ⊥) → bit_at t' (16 * x + 12) 0 ≡ bit_at u.table (16 * x + 12) 0
  unfolding bit_at
  mask_other x n = ap (λ (b : ℕ). bit b 0) (outside-written entry_writable u.table at bs (16 * x + 12 + 0) (omega (arith, n)))

  -- the mechanism in force stays
  mode_stays : mode_of (shape u) (registers u') ≡ mode_of (shape u) (registers u)
  mode_stays = mode-table (shape u) u.function.config u.table t'

  -- another vector is owed no more than before
  other_idle : (x : ℕ) → (x ≡ v → ⊥) → x < (shape u).msix.vectors → mode_of (shape u) (registers u) ≡ Msix → (is_open Msix (shape u) (registers u') x && waits Msix u' x) ≡ false
  unfolding vector_count
  other_idle x n l q =
      ap₂ ◌&&◌ (open_mask (shape u) u.function.config u.table t' x (mask_other x n)) (waits-same Msix u u' x refl refl)
      ∙ open_idle Msix u x k q l

  -- what is owed: at most vector v
  owed-msix : mode_of (shape u) (registers u) ≡ Msix → owed Msix (shape u) u' ≡ cond (is_open Msix (shape u) (registers u') v && waits Msix u v) (v ∷ []) []
  unfolding owed vector_count
  owed-msix q =
      keep_here (λ x. is_open Msix (shape u) (registers u') x && waits Msix u' x) v (shape u).msix.vectors (λ x n l. other_idle x n l q) few
      ∙ ap (λ (w : Bool). cond (is_open Msix (shape u) (registers u') v && w) (v ∷ []) []) (waits-same Msix u u' v refl refl)

  -- of another mechanism nothing
  owed_other : (m : Mode) → mode_of (shape u) (registers u) ≡ m → same_mode Msix m ≡ false → owed m (shape u) u' ≡ []
  unfolding owed vector_count same_mode keep count
  owed_other Pin q e = refl
  owed_other Msi q e =
      keep-none (λ x. is_open Msi (shape u) (registers u') x && waits Msi u' x) (count 0 (vector_count Msi (shape u)))
      λ x m. ap₂ ◌&&◌ (open_table (shape u) u.function.config u.table t' x) (waits-same Msi u u' x refl refl)
      ∙ open_idle Msi u x k q (let p = member-count 0 (vector_count Msi (shape u)) x m in omega arith)
  owed_other Msix q e = absurd (true≢false e)

  shut_other : (m : Mode) → mode_of (shape u) (registers u) ≡ m → same_mode Msix m ≡ false → is_open Msix (shape u) (registers u') v ≡ false
  shut_other m q e =
      by_test (is_open Msix (shape u) (registers u') v)
      (λ o. absurd (false≢true (sym e ∙ ap (same_mode Msix) (sym q ∙ sym mode_stays ∙ (open_parts Msix (shape u) (registers u') v o).force) ∙ force_refl Msix)))
      (λ o. o)

  pub bar_owed : owed_now (shape u) u' ≡ cond (is_open Msix (shape u) (registers u') v && waits Msix u v) (v ∷ []) []
  unfolding owed_now
  bar_owed = ap (λ (m : Mode). owed m (shape u) u') mode_stays ∙ go (mode_of (shape u) (registers u)) refl
    where
      go : (m : Mode) → mode_of (shape u) (registers u) ≡ m → owed m (shape u) u' ≡ cond (is_open Msix (shape u) (registers u') v && waits Msix u v) (v ∷ []) []
      go m q =
          by_test (same_mode Msix m)
          (λ e. let p : m ≡ Msix = in-force Msix m e in rw p (owed-msix (q ∙ p)))
          (λ e. owed_other m q e ∙ sym (ap (λ (b : Bool). cond (b && waits Msix u v) (v ∷ []) []) (shut_other m q e)))

  -- ---- so one message or none, and the wire stays

  -- the vector is open after the write and waits
  abbrev pub is_owed : Bool
  is_owed = is_open Msix (shape u) (registers u') v && waits Msix u v

  owed-mode : is_owed ≡ true → mode_of (shape u) (registers u') ≡ Msix
  owed-mode e = (open_parts Msix (shape u) (registers u') v (both (is_open Msix (shape u) (registers u') v) (waits Msix u v) e).0).force

  pub bar_swept : swept (shape u) u' ≡ cond is_owed (change_waiting clear_bit Msix u' v) u'
  unfolding swept clear_all swept_for owed_now
  bar_swept =
      by_test is_owed
      (λ e. rw (bar_owed, e, owed-mode e))
      (λ e. rw (bar_owed, e))

  pub bar-bytes : sweep_bytes (shape u) u' ≡ cond is_owed (message_of Msix (shape u) u.function.requester (registers u') v) []
  unfolding sweep_bytes join bytes_for owed_now
  bar-bytes =
      by_test is_owed
      (λ e. rw (bar_owed, e, owed-mode e) (append-nil (message_of Msix (shape u) u.function.requester (registers u') v)))
      (λ e. rw (bar_owed, e))

-- the wire packet of a card whose wire is as it should be
pub bar_wire : (w : World) (t' : List ℕ) → Sound w
    → wire_due_of (shape w.endpoint) (with_registers w.endpoint (record { config = w.endpoint.function.config; table = t' })) ≡ w.wire
bar_wire w t' k =
    wire-table (shape w.endpoint) w.endpoint.function.line w.endpoint.function.config w.endpoint.table t' ∙ sym k.wire
