-- The recorder as it crosses the C interface. Assumes nothing.
use Rattle.std.specs.Prelude.{cond, not, List, ℕ, min, ltb, eqb}
use Rattle.std.proofs.Math.Option.{Option, none, some}
use Rattle.model.specs.declared.Answer.TheVariants.{Refused}
use Rattle.model.specs.Answers.{refusal_of}
use Rattle.call_log.specs.declared.Record.{Record}
use Rattle.call_log.specs.declared.Record.TheVariants.{Event, Line, ConfigWrite, BarWrite, Reset}
use Rattle.call_log.specs.Recorder.{Appended, appended, logged}

-- what a function hands back: the number that it returns, the later contents of the output, and the count that it sets
pub record Wrote : Type 0 where
  pub returned : ℕ
  pub output : List ℕ
  pub count : ℕ

abbrev pub wrote : (returned : ℕ) (output : List ℕ) (count : ℕ) → Wrote
wrote returned output count = record { returned = returned; output = output; count = count }

abbrev pub wrote_by : Appended → Wrote
wrote_by a = wrote (refusal_of a.answer) a.output a.count

-- the record of a kind with these numbers. A number that is too wide is taken as the largest one that fits, which the card refuses as well; but a value
-- of a configuration write that has more than 32 bits belongs to no call
unfoldable pub config_write_of : (offset width value : ℕ) → Option Record
config_write_of offset width value = cond (ltb 4294967295 value) none (some (ConfigWrite (min offset 65535) (min width 255) value))

unfoldable pub record_of : (kind bar offset width value : ℕ) → Option Record
record_of kind bar offset width value =
    cond (eqb kind 1) (some (Event (min value 65535)))
    (cond (eqb kind 2) (some (Line (not (eqb value 0))))
    (cond (eqb kind 3) (config_write_of offset width value)
    (cond (eqb kind 4) (some (BarWrite (min bar 255) (min offset 4294967295) (min width 255) value))
    (cond (eqb kind 5) (some Reset) none))))

-- 60 where there is no such record, and nothing is written; else the record is appended, unless the call was refused with 6
unfoldable pub wrote_record : Option Record → (refusal : ℕ) → (out : List ℕ) → Wrote
wrote_record none refusal out = wrote 60 out 0
wrote_record (some r) refusal out = wrote_by (appended (logged r (Refused refusal)) out)
