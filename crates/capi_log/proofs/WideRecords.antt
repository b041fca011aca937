-- A call whose numbers are too wide for a record is recorded with the largest ones that fit, and its record is the same call. Assumes nothing.
use mathlib.Core.Path.{◌≡◌, refl, ◌∙◌}
use mathlib.Core.Bool.{not}
use mathlib.Core.List.{List}
use mathlib.Core.Option.{some}
use Prim.Native.Nat.{ℕ, ◌^◌, ◌≤◌, min}
use lib.Dec.{eqb}
use Rattle.words.specs.Bytes.{Below}
use Rattle.model.specs.World.{World}
use Rattle.model.specs.Calls.{step, config_write, bar_write, event, line}
use Rattle.model.proofs.Calls.WideCalls.{wide_event, wide-config-write, wide-bar-write}
use Rattle.call_log.specs.declared.Record.{Record}
use Rattle.call_log.specs.declared.Record.TheVariants.{Event, Line, ConfigWrite, BarWrite}
use Rattle.call_log.specs.Logs.{call_of}
use Rattle.capi_log.specs.Recording.{record_of}
use Rattle.capi_log.proofs.RecordingFor.{is-event, is_line, is_config, is_bar, not_wide}

-- the record that is written, and what it does on any card
pub record Recorded (kind bar offset width value : ℕ) (P : Record → Type 0) : Type 0 where
  pub made : Record
  pub written : some made ≡ record_of kind bar offset width value
  pub same : P made

module _ (w : World) (bar offset width value : ℕ) (out : List ℕ) where
  pub event_recorded : Recorded 1 bar offset width value (λ r. step w (call_of r out) ≡ step w (event value out))
  unfolding call_of
  event_recorded = record { made = Event (min value 65535); written = is-event 1 bar offset width value refl; same = wide_event w value (min value 65535) out refl }

  pub config_write_recorded : value ≤ 4294967295 → Recorded 3 bar offset width value (λ r. step w (call_of r out) ≡ step w (config_write offset width value out))
  unfolding call_of
  config_write_recorded h = record {
    made = ConfigWrite (min offset 65535) (min width 255) value;
    written = not_wide offset width value h ∙ is_config 3 bar offset width value refl;
    same = wide-config-write w offset width (min offset 65535) (min width 255) refl refl value out;
  }

  pub bar_write_recorded : Below (256 ^ 4) w.endpoint.function.sizes
      → Recorded 4 bar offset width value (λ r. step w (call_of r out) ≡ step w (bar_write bar offset width value out))
  unfolding call_of
  bar_write_recorded small = record {
    made = BarWrite (min bar 255) (min offset 4294967295) (min width 255) value;
    written = is_bar 4 bar offset width value refl;
    same = wide-bar-write w small bar offset width (min bar 255) (min offset 4294967295) (min width 255) refl refl refl value out;
  }

  pub line_recorded : Recorded 2 bar offset width value (λ r. step w (call_of r out) ≡ step w (line (not (eqb value 0)) out))
  unfolding call_of
  line_recorded = record { made = Line (not (eqb value 0)); written = is_line 2 bar offset width value refl; same = refl }
