use native.Mathlib.Omega.{arith}
use Rattle.call_log.specs.declared.Record.TheVariants.{ConfigWrite}
use Rattle.capi_log.proofs.RecordingFor.{too_wide, not_wide, none-wrote, some_wrote}
use Rattle.capi_log.proofs.recording.append_config_write.Goals as goal

pub returns-in_default : goal.returns-in_default
returns-in_default c = let h = c.in_default.ensures in none-wrote _ _ _ (too_wide _ _ _ (omega (arith, h)))

pub returns : goal.returns
returns c =
    let h = c.in-Ok.ensures.0 in
    some_wrote _ _ _ _ _ _ c.append.ensures (λ i. ConfigWrite (c.narrow16.ensures i) (c.narrow8.ensures i) (c.in-Ok.ensures.1 i))
    (not_wide _ _ _ (omega (arith, h)))
