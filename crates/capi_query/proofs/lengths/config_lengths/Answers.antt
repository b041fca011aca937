-- 60 for another length. Assumes nothing.
use Rattle.std.proofs.Common.{◌≡◌, length, rules, refl, Err}
use Rattle.model.specs.declared.refusal.Refusal.TheVariants.{Lengths}
use Rattle.capi_query.proofs.LengthsFor.{other_length, config-told}
use Rattle.capi_query.proofs.lengths.config_lengths.Goals as goal

pub returns-in_err-config : goal.returns-in_err-config
returns-in_err-config c =
    let e : c.from_residual.result ≡ Err Lengths = search rules in
    let other : length c.args.config.now ≡ 256 → ⊥ = search rules in
    rw e (other_length _ _ other refl)

pub returns : goal.returns
returns c =
    let size : length c.args.config.now ≡ 256 = search rules in
    let same : c.in_ok-config.config.now ≡ c.args.config.now = search rules in
    config-told _ size _ same _ c.lengths_of.ensures
