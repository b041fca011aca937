-- Each byte of the access lies in the same buffer. Assumes nothing.
use mathlib.Core.Path.{◌≡◌, sym, ◌∙◌}
use mathlib.Core.Bool.{Bool, true, false}
use Prim.Native.Nat.{◌+◌, ◌-◌, ◌≤◌}
use native.Mathlib.Omega.{arith}
use Rattle.model.specs.Shape.{table_bytes, pending_bytes}
use Rattle.model.specs.World.{Endpoint, zero_function, endpoint_of}
use Rattle.model.specs.Registers.{in_table, in_pending}
use Rattle.registers.proofs.BarLaws.{table-inside, pending_inside, table-value, pending-value}
use borrow.Author.Rules.{rules}
use Rattle.registers.proofs.bar.bar_value.Statement.{statement}
use Rattle.registers.proofs.bar.bar_value.Tie as tie

-- past the test for the table
module _ (c : tie.After-in_table) where
  abbrev start : tie.Start
  start = c.before.before.before

  abbrev inside : Bool
  inside = let a = c.args in in_table a.s a.bar a.offset

  abbrev buffers : Endpoint
  buffers = endpoint_of zero_function c.args.table.now c.args.pending.now

hit : (c : tie.Then-in_table) → inside c.before ≡ true
hit c = sym c.in_table.ensures ∙ c.if-in_table.true

missed : (c : tie.Else-in_table) → inside c.before ≡ false
missed c = sym c.in_table.ensures ∙ c.if-in_table.false

-- what is not in the table is in the pending array
other : (c : tie.Else-in_table) → let a = (start c.before).args in in_pending a.s a.bar a.offset ≡ true
other c = rw (missed c) at (start c.before).requires.3

-- the access lies whole in its buffer
in-table : (c : tie.Then-in_table)
    → let a = (start c.before).args in
    (a.s.msix.table.at ≤ a.offset) × (a.offset - a.s.msix.table.at + a.n ≤ table_bytes a.s)
in-table c =
    let a = c.args in
    table-inside a.offset a.n c.requires.2 a.s c.requires.1 a.bar (hit c)

in-pending : (c : tie.Else-in_table)
    → let a = (start c.before).args in
    (a.s.msix.pending.at ≤ a.offset) × (a.offset - a.s.msix.pending.at + a.n ≤ pending_bytes a.s)
in-pending c =
    let a = c.args in
    pending_inside a.offset a.n c.requires.2 a.s c.requires.1 a.bar (other c)

sub_read : tie.Need-overflow_sub-at
sub_read c = (in-table c.before).0

read-requires : tie.Need-read-requires
read-requires c κs =
    (omega (arith, c.requires.2), omega (arith, (in-table c.before).1, c.requires.0.table))

returns : tie.Need-returns-then-in_table
returns c =
    let a = c.args in
    c.read.ensures ∙ table-value a.offset a.n c.requires.2 a.s c.requires.1 a.bar (buffers c.before.before.before) (hit c.before.before)

sub-read-2 : tie.Need-overflow_sub-at-2
sub-read-2 c = (in-pending c.before).0

read-requires-2 : tie.Need-read-requires-2
read-requires-2 c κs =
    (omega (arith, c.requires.2), omega (arith, (in-pending c.before).1, c.requires.0.pending))

returns-2 : tie.Need-returns
returns-2 c =
    let a = c.args in
    c.read-2.ensures
    ∙ pending-value a.offset a.n c.requires.2 a.s c.requires.1 a.bar (buffers c.before.before.before) (missed c.before.before) (other c.before.before)

pub bar_value_spec : {M : Type 1} → statement M
bar_value_spec =
    tie.close
    (tie.spec
    (λ c κs. search rules)
    sub_read
    read-requires
    returns
    sub-read-2
    read-requires-2
    returns-2)
