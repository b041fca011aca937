-- One law for each kind. Assumes nothing.
use mathlib.Core.Path.{refl, ◌∙◌, ap}
use mathlib.Core.Option.{Option}
use Rattle.call_log.specs.declared.kind.Kind.TheVariants as Kinds
use Rattle.call_log.specs.declared.Record.{Record}
use Rattle.call_log.specs.declared.Record.TheVariants.{Event, BarWrite}
use Rattle.call_log.proofs.FormatLaws.{kind_is}
use Rattle.capi_log.specs.Recording.{wrote_record}
use Rattle.capi_log.proofs.RecordingFor.{is-event, is_line, is_config, is_bar, is-reset, no_kind_size, none-wrote, some_wrote}
use Rattle.capi_log.proofs.recording.musgarento_log_record.Goals as goal

pub returns-in_default : goal.returns-in_default
returns-in_default c = none-wrote _ _ _ (no_kind_size _ _ _ _ _ c.in_default.ensures)

pub returns-in-Event : goal.returns-in-Event
returns-in-Event c =
    some_wrote _ _ _ _ _ _ c.append.ensures (ap Event c.narrow16.ensures) (is-event _ _ _ _ _ (kind_is Kinds.Event c.in-Some.ensures c.in-Event.is))

pub returns-in-Line : goal.returns-in-Line
returns-in-Line c =
    some_wrote _ _ _ _ _ _ c.append-in-Line.ensures refl (is_line _ _ _ _ _ (kind_is Kinds.Line c.in-Some.ensures c.in-Line.is))

pub returns-in-ConfigWrite : goal.returns-in-ConfigWrite
returns-in-ConfigWrite c =
    let a = c.args in
    c.append_config_write.ensures
    ∙ ap (λ (x : Option Record). wrote_record x a.refusal a.out.now) (is_config _ _ _ _ _ (kind_is Kinds.ConfigWrite c.in-Some.ensures c.in-ConfigWrite.is))

pub returns-in-BarWrite : goal.returns-in-BarWrite
returns-in-BarWrite c =
    let a = c.args in
    some_wrote _ _ _ _ _ _ c.append-in-BarWrite.ensures
    (λ i. BarWrite (c.narrow8.ensures i) (c.narrow32.ensures i) (c.narrow8-in-BarWrite.ensures i) a.value)
    (is_bar _ _ _ _ _ (kind_is Kinds.BarWrite c.in-Some.ensures c.in-BarWrite.is))

pub returns-in-Reset : goal.returns-in-Reset
returns-in-Reset c =
    some_wrote _ _ _ _ _ _ c.append-in-Reset.ensures refl (is-reset _ _ _ _ _ (kind_is Kinds.Reset c.in-Some.ensures c.in-Reset.is))
