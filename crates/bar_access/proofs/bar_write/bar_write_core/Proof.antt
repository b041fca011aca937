-- One law for each way out. Assumes nothing.
use mathlib.Core.Path.{◌≡◌, sym, ◌∙◌}
use mathlib.Core.Bool.{true, false}
use Rattle.model.specs.Registers.{in_table}
use Rattle.model.specs.Vectors.{command_bit}
use Rattle.model.specs.Calls.{bad_bar}
use Rattle.model.proofs.Calls.AccessCalls.{bar_writes}
use Rattle.model.proofs.Registers.BarLaws.{in-table}
use Rattle.vectors.specs.Given.{regs}
use Rattle.bar_access.proofs.BarFor.{bar_refused, bar-no-memory}
use Rattle.bar_access.proofs.BarWriteFor.{table-asks, pending-written, table-written}
use borrow.Author.Rules.{rules}
use Rattle.bar_access.proofs.bar_write.bar_write_core.Statement.{statement}
use Rattle.bar_access.proofs.bar_write.bar_write_core.Tie as tie

returns : tie.Need-returns-then-bad_bar
returns c =
    bar_refused _ _ _ _ c.requires _ _ _ _ (bar_writes _ _) _ (sym c.bad_bar.ensures ∙ c.if-bad_bar.true) c.refuse.ensures

-- row 4 does not apply
module _ (c : tie.Else-bad_bar) where
  abbrev start : tie.Start
  start = c.before.before.before.before.before.before

  passed : let a = c.args in bad_bar a.k.shape a.bar a.offset a.width ≡ false
  passed = sym c.bad_bar.ensures ∙ c.if-bad_bar.false

returns-2 : tie.Need-returns-then-not-command_bit
returns-2 c =
    bar-no-memory _ _ _ _ c.requires _ _ _ _ (bar_writes _ _) _ (passed c.before.before.before.before)
    (sym (c.command_bit.ensures _) ∙ c.if-not-command_bit.true) c.refuse-then-not-command_bit.ensures

-- nor row 5
module _ (c : tie.Else-not-command_bit) where
  abbrev else1 : tie.Else-bad_bar
  else1 = c.before.before.before

  memory : let a = c.args in command_bit (regs a.card.function.config a.table.now) 1 ≡ true
  memory = sym (c.command_bit.ensures _) ∙ c.if-not-command_bit.false

returns-3 : tie.Need-returns-then-not-in_table
returns-3 c =
    pending-written _ _ _ _ c.requires _ _ _ (passed c.before.before.before.before.before.before.before) (memory c.before.before.before.before) _ _ _
    (sym c.in_table.ensures ∙ c.if-not-in_table.true) c.accepted.ensures

-- the table
module _ (c : tie.Else-not-in_table) where
  abbrev else2 : tie.Else-not-command_bit
  else2 = c.before.before.before

  inside : let a = c.args in in_table a.k.shape a.bar a.offset ≡ true
  inside = sym c.in_table.ensures ∙ c.if-not-in_table.false

sub_at : tie.Need-overflow_sub-at
sub_at c =
    (in-table _ _ _ (inside c.before)).0

write-entry-requires : tie.Need-write_entry-requires
write-entry-requires c κs =
    let at-if1 = else1 (else2 c.before.before.before.before) in
    table-asks _ _ _ _ (start at-if1).requires _ _ _ (passed at-if1) (inside c.before.before.before.before)

returns-4 : tie.Need-returns
returns-4 c =
    c.write_entry.ensures
    ∙ table-written _ _ _ _ c.requires _ _ _ (passed c.before.before.before.before.before.before.before.before.before.before.before.before.before.before.before.before.before) (memory c.before.before.before.before.before.before.before.before.before.before.before.before.before.before) c.args.value c.args.out.now (inside c.before.before.before.before.before.before.before.before.before.before.before)

pub bar_write_core_spec : {M : Type 1} → statement M
bar_write_core_spec =
    tie.close
    (tie.spec
    (λ c κs. search rules) (λ c κs. search rules)
    returns
    (λ c κs. search rules) (λ c κs. search rules)
    returns-2
    (λ c κs. search rules) (λ c κs. search rules)
    returns-3
    sub_at
    write-entry-requires
    (λ c. search rules) (λ c. search rules) (λ c. search rules)
    returns-4)
