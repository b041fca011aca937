-- An aligned access of a BAR lies whole inside or whole outside the table and the pending array. Assumes nothing.
use mathlib.Core.Path.{◌≡◌, refl, sym, ap, ap₂, ◌∙◌}
use mathlib.Core.Bool.{Bool, true, false, cond, ◌&&◌}
use mathlib.Core.List.{List}
use Prim.Native.Nat.{ℕ, ◌+◌, ◌-◌, ◌%◌, ◌≤◌, ◌<◌}
use native.Mathlib.Omega.{arith}
use lib.Dec.{eqb}
use Rattle.words.specs.Lists.{within}
use Rattle.words.specs.Bytes.{byte, number}
use Rattle.words.proofs.BoolLaws.{both}
use Rattle.words.proofs.ByteLaws.{number_shift, number_same}
use Rattle.words.proofs.ListLaws.{aligned_inside, aligned-same}
use Rattle.model.specs.declared.Shape.{Shape}
use Rattle.model.specs.Shape.{msix_present, table_bytes, pending_bytes}
use Rattle.model.specs.World.{Endpoint}
use Rattle.model.specs.Registers.{in_region, in_table, in_pending, bar_byte}
use Rattle.registers.specs.Bounds.{Aligned}

-- what a BAR shows depends only on the two buffers
pub bar_buffers : (s : Shape) (u v : Endpoint) → u.table ≡ v.table → u.pending ≡ v.pending → (b o : ℕ) → bar_byte s u b o ≡ bar_byte s v b o
unfolding bar_byte
bar_buffers s u v e d b o =
    ap₂ (λ (t p : List ℕ). cond (in_table s b o) (byte t (o - s.msix.table.at)) (byte p (o - s.msix.pending.at))) e d

pub bar_value_buffers : (s : Shape) (u v : Endpoint) → u.table ≡ v.table → u.pending ≡ v.pending
    → (b o n : ℕ) → number (bar_byte s u b) o n ≡ number (bar_byte s v b) o n
bar_value_buffers s u v e d b o n = number_same (bar_byte s u b) (bar_byte s v b) o n (λ k h j. bar_buffers s u v e d b k)

-- ---- n bytes from o on that cross no multiple of 8

module _ (o n : ℕ) (w : o % 8 + n ≤ 8) where
  -- a structure of m bytes at a, which may be absent
  region_inside : (a m : ℕ) → a % 8 ≡ 0 → m % 8 ≡ 0
      → (present : Bool) (bar b : ℕ) → (present && (eqb b bar && within a m o)) ≡ true → (a ≤ o) × (o - a + n ≤ m)
  region_inside a m ha hm present bar b e =
      aligned_inside o n w a m ha hm (both (eqb b bar) (within a m o) (both present (eqb b bar && within a m o) e).1).1

  module _ (s : Shape) (al : Aligned s) (b : ℕ) where
    table-whole : (k : ℕ) → k < n → in_table s b (o + k) ≡ in_table s b o
    unfolding in_table in_region table_bytes
    table-whole k h =
        ap (λ (t : Bool). msix_present s && (eqb b s.msix.table.bar && t)) (aligned-same o n w s.msix.table.at (table_bytes s) al.table (omega arith) k h)

    pub table-inside : in_table s b o ≡ true → (s.msix.table.at ≤ o) × (o - s.msix.table.at + n ≤ table_bytes s)
    unfolding in_table in_region table_bytes
    table-inside e = region_inside s.msix.table.at (table_bytes s) al.table (omega arith) (msix_present s) s.msix.table.bar b e

    pub pending_inside : in_pending s b o ≡ true → (s.msix.pending.at ≤ o) × (o - s.msix.pending.at + n ≤ pending_bytes s)
    unfolding in_pending in_region pending_bytes
    pending_inside e = region_inside s.msix.pending.at (pending_bytes s) al.pending (omega arith) (msix_present s) s.msix.pending.bar b e

    module _ (u : Endpoint) where
      -- the number in the table, or in the pending array
      bytes : (l : List ℕ) (a : ℕ) (t : Bool) → a ≤ o → in_table s b o ≡ t
          → ((k : ℕ) → cond t (byte u.table (k - s.msix.table.at)) (byte u.pending (k - s.msix.pending.at)) ≡ byte l (k - a))
          → number (byte l) (o - a) n ≡ number (bar_byte s u b) o n
      unfolding bar_byte
      bytes l a t h e f =
          number_shift (byte l) (bar_byte s u b) (o - a) o n
          (λ k j.
          let p : o - a + k ≡ o + k - a = omega arith in
          ap (byte l) p ∙ sym (rw (table-whole k j ∙ e) (f (o + k))))

      pub table-value : in_table s b o ≡ true → number (byte u.table) (o - s.msix.table.at) n ≡ number (bar_byte s u b) o n
      table-value e = bytes u.table s.msix.table.at true (table-inside e).0 e (λ k. refl)

      pub pending-value : in_table s b o ≡ false → in_pending s b o ≡ true
          → number (byte u.pending) (o - s.msix.pending.at) n ≡ number (bar_byte s u b) o n
      pending-value e d = bytes u.pending s.msix.pending.at false (pending_inside d).0 e (λ k. refl)
