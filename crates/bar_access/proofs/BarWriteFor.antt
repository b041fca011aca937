-- A write of a BAR of a sound card, where it is not refused: the pending array, or the table. Assumes nothing.
use mathlib.Core.Path.{◌≡◌, refl, sym, ap, ◌∙◌}
use mathlib.Core.Bool.{Bool, true, false}
use mathlib.Core.List.{List, []}
use Prim.Native.Nat.{ℕ, ◌+◌, ◌-◌, ◌%◌, ◌≤◌, ◌<◌}
use native.Mathlib.Omega.{arith}
use lib.ListN.{length}
use Rattle.words.specs.Bytes.{bytes_of}
use Rattle.model.specs.declared.Answer.TheVariants.{Done}
use Rattle.model.specs.declared.Card.{Card}
use Rattle.model.specs.declared.Profile.{Profile}
use Rattle.model.specs.declared.Shape.{Shape}
use Rattle.model.specs.World.{World, Endpoint, registers, world_of}
use Rattle.model.specs.Registers.{in_table}
use Rattle.model.specs.Vectors.{command_bit}
use Rattle.model.specs.Release.{settled, settle_bytes}
use Rattle.model.specs.Sound.{shape}
use Rattle.model.specs.Calls.{bar_write, bad_bar, performed, accepted, settle_of}
use Rattle.model.proofs.Calls.AccessCalls.{bar_writes}
use Rattle.model.proofs.Registers.BarLaws.{in-table}
use Rattle.model.proofs.Calls.CallLaws.{room_fits}
use Rattle.model.proofs.Calls.SettleCalls.{Settles, table_settles, pending_settles, nothing_sent, settled_same}
use Rattle.card.specs.declared.outcome.Outcome.{Outcome}
use Rattle.card.specs.Outcomes.{accepted_with, after}
use Rattle.card.specs.Running.{Running}
use Rattle.card.proofs.CallsFor.{core_settles}
use Rattle.bar_access.specs.Entries.{table_written}
use Rattle.bar_access.proofs.BarFor.{bar-asks, bar-passes}

module _ (card : Card) (t p : List ℕ) (k : Profile) (r : Running card t p k) where
  abbrev w : World
  w = world_of card t p

  -- nothing follows where nothing changes
  settle_none : (out : List ℕ) → settle_of w k.shape w.endpoint out ≡ accepted w Done [] out
  settle_none out =
      let s : Shape = shape w.endpoint in
      ap (λ (x : Shape). settle_of w x w.endpoint out) r.shaped
      ∙ room_fits w (settled s w.endpoint) Done (settle_bytes s w.wire w.endpoint) out (rw (nothing_sent w r.is_sound) (omega arith))
      ∙ (λ i. accepted (settled_same w r.is_sound i) Done (nothing_sent w r.is_sound i) out)

  -- row 4 does not apply
  module _ (b o n : ℕ) (e : bad_bar k.shape b o n ≡ false) where
    pub table-asks : in_table k.shape b o ≡ true
        → Running card t p k × ((o - k.shape.msix.table.at) % 8 + n ≤ 8) × (o - k.shape.msix.table.at < length t)
    table-asks i =
        let l = in-table k.shape b o i in
        let a = bar-asks card t p k r b o n e in
        (r, omega (arith, l.0, a.1.table, a.2), omega (arith, l, a.0.table))

    -- nor row 5
    module _ (m : command_bit (registers w.endpoint) 1 ≡ true) (x : ℕ) (out : List ℕ) where
      place : (z : Bool) → in_table k.shape b o ≡ z → in_table (shape w.endpoint) b o ≡ z
      place z i = ap (λ (s : Shape). in_table s b o) (sym r.shaped) ∙ i

      settles : (u v : Endpoint) → Settles w (bar_write b o n x out) v → u ≡ v → settle_of w k.shape u out ≡ performed w (bar_write b o n x out)
      settles u v to eu =
          core_settles w (bar_write b o n x out) u v to k.shape r.shaped eu
          (bar-passes card t p k r b o n e m (bar_write b o n x out) (bar_writes x out))

      pub pending-written : (y : Outcome) → in_table k.shape b o ≡ false → y ≡ accepted_with card Done 0 → after y t p out ≡ performed w (bar_write b o n x out)
      pending-written y i ey =
          ap (λ (z : Outcome). after z t p out) ey ∙ sym (settle_none out)
          ∙ settles w.endpoint w.endpoint (pending_settles w b o n x out (place false i)) refl

      pub table-written : in_table k.shape b o ≡ true
          → settle_of w k.shape (table_written w (o - k.shape.msix.table.at) (bytes_of n x)) out ≡ performed w (bar_write b o n x out)
      table-written i =
          settles _ _ (table_settles w b o n x out (place true i)) (ap (λ (s : Shape). table_written w (o - s.msix.table.at) (bytes_of n x)) r.shaped)
