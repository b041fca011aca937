-- Refused by row 3, or the changed function is settled. Assumes nothing.
use mathlib.Core.Path.{◌≡◌, refl, sym, ◌∙◌}
use mathlib.Core.Bool.{false}
use Rattle.model.specs.Calls.{bad_config}
use Rattle.model.proofs.Calls.AccessCalls.{config-writes, config-refused}
use Rattle.card.proofs.CallsFor.{core_row}
use Rattle.config_access.proofs.ConfigFor.{write_asks, write-unsettled, write-settles}
use borrow.Author.Rules.{rules}
use Rattle.config_access.proofs.config_write.config_write_core.Statement.{statement}
use Rattle.config_access.proofs.config_write.config_write_core.Tie as tie

returns : tie.Need-returns-then-bad_config
returns c =
    core_row _ _ _ _ 3 _ (config-refused _ _ _ _ (config-writes _ _) (sym c.bad_config.ensures ∙ c.if-bad_config.true)) refl
    c.refuse.ensures

-- row 3 does not apply
module _ (c : tie.Else-bad_config) where
  abbrev start : tie.Start
  start = c.before.before.before.before.before

  passed : bad_config c.args.offset c.args.width ≡ false
  passed = sym c.bad_config.ensures ∙ c.if-bad_config.false

config-written-requires : tie.Need-config_written-config-requires
config-written-requires c κs =
    write_asks _ _ _ _ c.requires.0 _ _ c.args.value (passed c.before.before.before)

mode-requires : tie.Need-mode-mode-requires
mode-requires c κs =
    c.requires.0.profiled.fits

settle-requires : tie.Need-settle-requires
settle-requires c κs =
    write-unsettled _ _ _ _ c.requires.0 _ _ _ (passed c.before.before.before.before.before.before.before.before.before.before) _ c.config_written-config.ensures _ c.with_config-f.ensures _
    c.requires.1 _ c.mode-mode.ensures

returns-2 : tie.Need-returns
returns-2 c =
    c.settle.ensures
    ∙ write-settles _ _ _ _ c.requires.0 _ _ _ (passed c.before.before.before.before.before.before.before.before.before.before.before.before.before.before.before) _ c.config_written-config.ensures _ c.with_config-f.ensures
    c.args.out.now

pub config_write_core_spec : {M : Type 1} → statement M
config_write_core_spec =
    tie.close
    (tie.spec
    (λ c κs. search rules) (λ c κs. search rules)
    returns
    config-written-requires
    (λ c κs. search rules)
    mode-requires
    settle-requires
    (λ c. search rules) (λ c. search rules)
    returns-2)
