-- The calls after which the wire and the open waiting vectors send: what changes, and what is sent. Assumes nothing.
use mathlib.Core.Path.{◌≡◌, refl, sym, ap, ◌∙◌}
use mathlib.Core.Bool.{Bool, true, false}
use mathlib.Core.List.{List, [], ◌++◌, append-nil}
use Prim.Native.Nat.{ℕ, ◌-◌}
use Rattle.words.specs.Bytes.{bytes_of}
use Rattle.model.specs.declared.Answer.TheVariants.{Done}
use Rattle.model.specs.declared.Shape.{Shape}
use Rattle.model.specs.World.{World, Endpoint, registers, with_registers, with_line}
use Rattle.model.specs.Registers.{entry_writable, written, in_table, config_written}
use Rattle.model.specs.Release.{wire_change, wire_due_of, owed_now, sweep_bytes, settled, settle_bytes}
use Rattle.model.specs.Sound.{shape, sound}
use Rattle.model.specs.Calls.{Call, config_write, bar_write, line, changed, next, sends, answer_of}
use Rattle.model.proofs.Sound.SoundLaws.{is-sound}
use Rattle.model.proofs.Vectors.EventLaws.{swept_none, bytes-none, no_change}

-- ---- the function becomes u, and then the wire and the open waiting vectors send

pub record Settles (w : World) (c : Call) (u : Endpoint) : Type 0 where
  pub next : next w c ≡ settled (shape w.endpoint) u
  pub sends : sends w c ≡ settle_bytes (shape w.endpoint) w.wire u
  pub answer : answer_of w.endpoint c ≡ Done

pub config_settles : (w : World) (o n x : ℕ) (out : List ℕ)
    → Settles w (config_write o n x out) (with_registers w.endpoint (config_written (shape w.endpoint) (registers w.endpoint) o (bytes_of n x)))
unfolding next sends answer_of changed
config_settles w o n x out = record { next = refl; sends = refl; answer = refl }

pub line_settles : (w : World) (level : Bool) (out : List ℕ) → Settles w (line level out) (with_line w.endpoint level)
unfolding next sends answer_of changed
line_settles w level out = record { next = refl; sends = refl; answer = refl }

-- a write of the table, and of the pending array
module _ (w : World) (b o n x : ℕ) (out : List ℕ) where
  abbrev with-table : List ℕ → Endpoint
  with-table t = with_registers w.endpoint (record { config = w.endpoint.function.config; table = t })

  pub table_settles : in_table (shape w.endpoint) b o ≡ true
      → Settles w (bar_write b o n x out) (with-table (written entry_writable w.endpoint.table (o - (shape w.endpoint).msix.table.at) (bytes_of n x)))
  unfolding next sends answer_of changed
  table_settles e = record { next = rw e; sends = rw e; answer = refl }

  pub pending_settles : in_table (shape w.endpoint) b o ≡ false → Settles w (bar_write b o n x out) w.endpoint
  unfolding next sends answer_of changed
  pending_settles e = record { next = rw e; sends = rw e; answer = refl }

-- ---- what a function u of shape s then sends

module _ (s : Shape) (wire : Bool) (u : Endpoint) where
  -- first the wire
  pub wire-first : (l : List ℕ) → l ≡ wire_change u.function.requester (registers u) wire (wire_due_of s u) → l ++ sweep_bytes s u ≡ settle_bytes s wire u
  unfolding settle_bytes
  wire-first l e = ap (λ (x : List ℕ). x ++ sweep_bytes s u) e

  -- the wire stays
  pub vectors_only : wire_due_of s u ≡ wire → settle_bytes s wire u ≡ sweep_bytes s u
  unfolding settle_bytes
  vectors_only e =
      ap (λ (b : Bool). wire_change u.function.requester (registers u) wire b ++ sweep_bytes s u) e
      ∙ ap (λ (x : List ℕ). x ++ sweep_bytes s u) (no_change u.function.requester (registers u) wire)

  -- no open vector waits
  pub wire_alone : owed_now s u ≡ [] → settle_bytes s wire u ≡ wire_change u.function.requester (registers u) wire (wire_due_of s u)
  unfolding settle_bytes
  wire_alone e =
      ap (λ (x : List ℕ). wire_change u.function.requester (registers u) wire (wire_due_of s u) ++ x) (bytes-none s u e)
      ∙ append-nil (wire_change u.function.requester (registers u) wire (wire_due_of s u))

-- a sound card sends nothing, and stays
module _ (w : World) (k : sound w ≡ true) where
  pub nothing_sent : settle_bytes (shape w.endpoint) w.wire w.endpoint ≡ []
  nothing_sent =
      vectors_only (shape w.endpoint) w.wire w.endpoint (sym (is-sound w k).wire)
      ∙ bytes-none (shape w.endpoint) w.endpoint (is-sound w k).endpoint.quiet

  pub settled_same : settled (shape w.endpoint) w.endpoint ≡ w
  settled_same = λ i. record { endpoint = swept_none (shape w.endpoint) w.endpoint (is-sound w k).endpoint.quiet i; wire = sym (is-sound w k).wire i }
