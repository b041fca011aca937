-- Registers by a past: at a start, and after each kind of call. Assumes nothing.
use mathlib.Core.Path.{◌≡◌, refl, sym, ap, ◌∙◌}
use mathlib.Core.Bool.{Bool, true, false, cond, and-false}
use mathlib.Core.List.{List, [], ◌∷◌}
use mathlib.Core.Option.{Option, none}
use Prim.Native.Nat.{ℕ, ◌-◌}
use Rattle.words.specs.Bytes.{bytes_of}
use Rattle.words.proofs.BoolLaws.{by_test}
use Rattle.model.specs.declared.Shape.{Shape}
use Rattle.model.specs.declared.Answer.{Answer}
use Rattle.model.specs.Answers.{is_accepted}
use Rattle.model.specs.Shape.{shape_of}
use Rattle.model.specs.Registers.{entry_writable, written, in_table, config_written, bar_written}
use Rattle.model.specs.Start.{Given}
use Rattle.model.specs.Calls.{config_write, bar_write}
use Rattle.model.specs.History.{Entry, Past, Location, config_byte, table_byte, is_reset, resets, puts, wrote, start_registers, writable_at, bytes_by, registers_by}
use Rattle.model.proofs.History.HistoryBytes.{by_none, by_reset, by_other, by_write}

-- ---- an entry that is refused, or of a call that neither resets nor writes

pub refused-resets : (x : Entry) → is_accepted x.answer ≡ false → resets x ≡ false
unfolding resets
refused-resets x e = rw e

pub refused-wrote : (s : Shape) (x : Entry) (a : Location) → is_accepted x.answer ≡ false → wrote s x a ≡ none
unfolding wrote
refused-wrote s x a e = rw e

pub idle-resets : (x : Entry) → is_reset x.call ≡ false → resets x ≡ false
unfolding resets
idle-resets x e = rw (e, and-false)

pub idle-wrote : (s : Shape) (x : Entry) (a : Location) → puts s x.call a ≡ none → wrote s x a ≡ none
unfolding wrote
idle-wrote s x a e = rw e (no (is_accepted x.answer))
  where
    no : (b : Bool) → ◌≡◌ {A = Option ℕ} (cond b none none) none
    no true = refl
    no false = refl

-- ---- the registers

pub registers-none : (g : Given) → registers_by g [] ≡ start_registers g
unfolding registers_by
registers-none g =
    let s : Shape = shape_of g.config in
    λ i. record { config = by_none s config_byte (start_registers g).config i; table = by_none s table_byte (start_registers g).table i }

module _ (g : Given) (x : Entry) (past : Past) where
  pub registers-reset : resets x ≡ true → registers_by g (x ∷ past) ≡ start_registers g
  unfolding registers_by
  registers-reset e =
      let s : Shape = shape_of g.config in
      λ i. record {
        config = by_reset s x past config_byte (start_registers g).config e i;
        table = by_reset s x past table_byte (start_registers g).table e i;
      }

  pub registers_other : resets x ≡ false → ((a : Location) → wrote (shape_of g.config) x a ≡ none) → registers_by g (x ∷ past) ≡ registers_by g past
  unfolding registers_by
  registers_other e n =
      let s : Shape = shape_of g.config in
      λ i. record {
        config = by_other s x past config_byte (start_registers g).config e (λ k. n (config_byte k)) i;
        table = by_other s x past table_byte (start_registers g).table e (λ k. n (table_byte k)) i;
      }

-- an accepted write to the registers by a past is one more entry
module _ (g : Given) (past : Past) (a : Answer) (ok : is_accepted a ≡ true) (out bytes : List ℕ) where
  s : Shape
  s = shape_of g.config

  pub registers-config_write : (o n v : ℕ)
      → config_written (shape_of g.config) (registers_by g past) o (bytes_of n v) ≡ registers_by g (record { call = config_write o n v out; answer = a; bytes = bytes } ∷ past)
  unfolding registers_by config_written s writable_at resets is_reset wrote puts
  registers-config_write o n v = λ i. record {
    config = by_write s x past config_byte (start_registers g).config o n v (rw ok) (λ k. rw ok) i;
    table = sym (by_other s x past table_byte (start_registers g).table (rw ok) (λ k. rw ok)) i;
  }
    where
      x : Entry
      x = record { call = config_write o n v out; answer = a; bytes = bytes }

  pub registers-bar_write : (b o n v : ℕ)
      → bar_written (shape_of g.config) (registers_by g past) b o (bytes_of n v) ≡ registers_by g (record { call = bar_write b o n v out; answer = a; bytes = bytes } ∷ past)
  unfolding registers_by bar_written s writable_at resets is_reset wrote puts
  registers-bar_write b o n v = λ i. record {
    config = sym (by_other s x past config_byte (start_registers g).config (rw ok) (λ k. rw ok)) i;
    table = by_test (in_table s b o) inside outside i;
  }
    where
      x : Entry
      x = record { call = bar_write b o n v out; answer = a; bytes = bytes }

      before : List ℕ
      before = bytes_by s past table_byte (start_registers g).table

      place : ℕ
      place = o - s.msix.table.at

      inside : in_table s b o ≡ true → cond (in_table s b o) (written entry_writable before place (bytes_of n v)) before ≡ bytes_by s (x ∷ past) table_byte (start_registers g).table
      inside t =
          ap (λ (q : Bool). cond q (written entry_writable before place (bytes_of n v)) before) t
          ∙ by_write s x past table_byte (start_registers g).table place n v (rw ok) (λ k. rw (ok, t))

      outside : in_table s b o ≡ false → cond (in_table s b o) (written entry_writable before place (bytes_of n v)) before ≡ bytes_by s (x ∷ past) table_byte (start_registers g).table
      outside t =
          ap (λ (q : Bool). cond q (written entry_writable before place (bytes_of n v)) before) t
          ∙ sym (by_other s x past table_byte (start_registers g).table (rw ok) (λ k. rw (ok, t)))
