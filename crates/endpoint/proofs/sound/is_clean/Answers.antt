-- One law for each test that fails; then what is owed decides. Assumes nothing.
use Rattle.std.proofs.lemmas.Bool.{not_from_false, not_from_true}
use Rattle.model.specs.Shape.{table_bytes}
use Rattle.model.specs.World.{endpoint_of, function_of}
use Rattle.endpoint.proofs.CleanLaws.{all_lent, by_owed, bad-config, bad_table, bad_below}
use Rattle.endpoint.proofs.sound.is_clean.Goals as goal

pub config_clean-requires : goal.config_clean-requires
config_clean-requires c = (c.requires.0, c.requires.2.form)

pub returns-then-not-config_clean : goal.returns-then-not-config_clean
returns-then-not-config_clean c =
    λ z e q l _. bad-config _ (endpoint_of (function_of _ z e q l _) c.args.table.now c.args.pending.now) _ c.config_clean.ensures (not_from_false _ c.if-not-config_clean.true)

pub table_clean-requires : goal.table_clean-requires
unfolding table_bytes
table_clean-requires c = c.requires.1.table

pub returns-then-not-table_clean : goal.returns-then-not-table_clean
returns-then-not-table_clean c =
    λ z e q l _. bad_table _ (endpoint_of (function_of _ z e q l _) c.args.table.now c.args.pending.now) _ c.table_clean.ensures (not_from_false _ c.if-not-table_clean.true)

pub waits_below-requires : goal.waits_below-requires
waits_below-requires c = (c.requires.1.shape.capable, c.requires.1.pending)

pub returns-then-not-waits_below : goal.returns-then-not-waits_below
returns-then-not-waits_below c =
    λ z e q l _. bad_below _ (endpoint_of (function_of _ z e q l _) c.args.table.now c.args.pending.now) _ (c.waits_below.ensures _ _ z e q l) (not_from_false _ c.if-not-waits_below.true)

pub nothing_owed-requires : goal.nothing_owed-requires
nothing_owed-requires c =
    let f = c.args.f.now in
    let u = endpoint_of f c.args.table.now c.args.pending.now in
    (c.requires.2, all_lent _ u _ c.requires.1 (c.waits_below.ensures _ _ f.sizes f.events f.requester f.line) (not_from_true _ c.if-not-waits_below.false), c.requires.1.table)

pub returns : goal.returns
returns c =
    λ z e q l k.
    by_owed _ (endpoint_of (function_of _ z e q l _) c.args.table.now c.args.pending.now) _ _ _ c.config_clean.ensures c.table_clean.ensures (c.waits_below.ensures _ _ z e q l) _ k
    (not_from_true _ c.if-not-config_clean.false) (not_from_true _ c.if-not-table_clean.false) (not_from_true _ c.if-not-waits_below.false)
    (c.nothing_owed.ensures z e q l)
