-- One law for each way out. Assumes nothing.
use mathlib.Core.Path.{◌≡◌, sym, ◌∙◌}
use mathlib.Core.Bool.{false}
use Rattle.model.specs.Calls.{bad_bar}
use Rattle.model.proofs.Calls.AccessCalls.{bar_reads}
use Rattle.bar_access.proofs.BarFor.{bar_refused, bar-no-memory, bar-asks, bar-read-value}
use borrow.Author.Rules.{rules}
use Rattle.bar_access.proofs.bar_read.bar_read_core.Statement.{statement}
use Rattle.bar_access.proofs.bar_read.bar_read_core.Tie as tie

returns : tie.Need-returns-then-bad_bar
returns c =
    bar_refused _ _ _ _ c.requires _ _ _ _ bar_reads _ (sym c.bad_bar.ensures ∙ c.if-bad_bar.true) c.refuse.ensures

-- row 4 does not apply
module _ (c : tie.Else-bad_bar) where
  abbrev start : tie.Start
  start = c.before.before.before.before.before

  passed : let a = c.args in bad_bar a.k.shape a.bar a.offset a.width ≡ false
  passed = sym c.bad_bar.ensures ∙ c.if-bad_bar.false

returns-2 : tie.Need-returns-then-not-command_bit
returns-2 c =
    bar-no-memory _ _ _ _ c.requires _ _ _ _ bar_reads _ (passed c.before.before.before.before)
    (sym (c.command_bit.ensures _) ∙ c.if-not-command_bit.true) c.refuse-then-not-command_bit.ensures

bar-value-requires : tie.Need-bar_value-value-requires
bar-value-requires c κs =
    bar-asks _ _ _ _ c.requires _ _ _ (passed c.before.before.before.before)

returns-3 : tie.Need-returns
returns-3 c =
    bar-read-value _ _ _ _ c.requires _ _ _ (passed c.before.before.before.before.before.before) (sym (c.command_bit.ensures _) ∙ c.if-not-command_bit.false) _ _
    c.bar_value-value.ensures c.accepted.ensures

pub bar_read_core_spec : {M : Type 1} → statement M
bar_read_core_spec =
    tie.close
    (tie.spec
    (λ c κs. search rules) (λ c κs. search rules)
    returns
    (λ c κs. search rules) (λ c κs. search rules)
    returns-2
    bar-value-requires
    (λ c κs. search rules)
    returns-3)
