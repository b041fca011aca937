-- One law for each way out. Assumes nothing.
use mathlib.Core.Path.{refl, sym, ◌∙◌}
use Rattle.model.proofs.Calls.AccessCalls.{config-reads, config-refused}
use Rattle.card.proofs.CallsFor.{core_row}
use Rattle.config_access.proofs.ReadFor.{read_asks, read_value}
use Rattle.config_access.proofs.config_read.config_read_core.Goals as goal

pub returns-then-bad_config : goal.returns-then-bad_config
returns-then-bad_config c =
    core_row _ _ _ _ 3 _ (config-refused _ _ _ _ config-reads (sym c.bad_config.ensures ∙ c.if-bad_config.true)) refl c.refuse.ensures

pub config_value-value-requires : goal.config_value-value-requires
config_value-value-requires c =
    read_asks _ _ _ _ c.requires _ _ (sym c.bad_config.ensures ∙ c.if-bad_config.false)

pub returns : goal.returns
returns c =
    read_value _ _ _ _ c.requires _ _ (sym c.bad_config.ensures ∙ c.if-bad_config.false) _ _ c.config_value-value.ensures
    c.accepted.ensures
