-- A record of each kind, read where the room for its bytes is. Assumes nothing.
use native.Mathlib.Omega.{arith}
use Rattle.call_log.specs.declared.kind.Kind.TheVariants.{Event, Line, ConfigWrite, BarWrite, Reset}
use Rattle.call_log.proofs.FormatLaws.{is-event, is_line, is_config, is_bar, is_reset_kind, is_no_kind, kind_is, kind_room, sizes}
use Rattle.call_log.proofs.format.record_in.Goals as goal

pub word16-requires : goal.word16-requires
word16-requires c = omega (arith, kind_room _ c.requires.1 1 (kind_is Event c.in-Ok-Event.ensures c.in-Ok-Event.field-0-is), sizes.0)

pub bounds-part-1 : goal.bounds-part-1
bounds-part-1 c = omega (arith, kind_room _ c.requires.1 2 (kind_is Line c.in-Ok-Line.ensures c.in-Ok-Line.field-0-is), sizes.1)

pub word16-requires-in-Ok-ConfigWrite : goal.word16-requires-in-Ok-ConfigWrite
word16-requires-in-Ok-ConfigWrite c = omega (arith, kind_room _ c.requires.1 3 (kind_is ConfigWrite c.in-Ok-ConfigWrite.ensures c.in-Ok-ConfigWrite.field-0-is), sizes.2)

pub bounds-part-3 : goal.bounds-part-3
bounds-part-3 c = omega (arith, kind_room _ c.requires.1 3 (kind_is ConfigWrite c.in-Ok-ConfigWrite.ensures c.in-Ok-ConfigWrite.field-0-is), sizes.2)

pub word32-requires : goal.word32-requires
word32-requires c = omega (arith, kind_room _ c.requires.1 3 (kind_is ConfigWrite c.in-Ok-ConfigWrite.ensures c.in-Ok-ConfigWrite.field-0-is), sizes.2)

pub bounds-part-1-in-Ok-BarWrite : goal.bounds-part-1-in-Ok-BarWrite
bounds-part-1-in-Ok-BarWrite c = omega (arith, kind_room _ c.requires.1 4 (kind_is BarWrite c.in-Ok-BarWrite.ensures c.in-Ok-BarWrite.field-0-is), sizes.3)

pub word32-requires-in-Ok-BarWrite : goal.word32-requires-in-Ok-BarWrite
word32-requires-in-Ok-BarWrite c = omega (arith, kind_room _ c.requires.1 4 (kind_is BarWrite c.in-Ok-BarWrite.ensures c.in-Ok-BarWrite.field-0-is), sizes.3)

pub bounds-part-6 : goal.bounds-part-6
bounds-part-6 c = omega (arith, kind_room _ c.requires.1 4 (kind_is BarWrite c.in-Ok-BarWrite.ensures c.in-Ok-BarWrite.field-0-is), sizes.3)

pub word64-requires : goal.word64-requires
word64-requires c = omega (arith, kind_room _ c.requires.1 4 (kind_is BarWrite c.in-Ok-BarWrite.ensures c.in-Ok-BarWrite.field-0-is), sizes.3)

pub returns-in-Ok-Event : goal.returns-in-Ok-Event
returns-in-Ok-Event c = rw c.word16.ensures (is-event _ (kind_is Event c.in-Ok-Event.ensures c.in-Ok-Event.field-0-is))

pub returns-in-Ok-Line : goal.returns-in-Ok-Line
returns-in-Ok-Line c = is_line _ (kind_is Line c.in-Ok-Line.ensures c.in-Ok-Line.field-0-is)

pub returns-in-Ok-ConfigWrite : goal.returns-in-Ok-ConfigWrite
returns-in-Ok-ConfigWrite c =
    rw (c.word16-in-Ok-ConfigWrite.ensures, c.word32.ensures) (is_config _ (kind_is ConfigWrite c.in-Ok-ConfigWrite.ensures c.in-Ok-ConfigWrite.field-0-is))

pub returns-in-Ok-BarWrite : goal.returns-in-Ok-BarWrite
returns-in-Ok-BarWrite c =
    rw (c.word32-in-Ok-BarWrite.ensures, c.word64.ensures) (is_bar _ (kind_is BarWrite c.in-Ok-BarWrite.ensures c.in-Ok-BarWrite.field-0-is))

pub returns-in-Ok-Reset : goal.returns-in-Ok-Reset
returns-in-Ok-Reset c = is_reset_kind _ (kind_is Reset c.in-Ok-Reset.ensures c.in-Ok-Reset.field-0-is)

pub returns-in-Err : goal.returns-in-Err
returns-in-Err c = is_no_kind _ c.in-Err.ensures.1
