-- The worked examples of request [1], computed: for each of its numbers a case in which it shows. docs/NUMBERS.md has the list. Assumes nothing.
use mathlib.Core.Bool.{Bool, true}
use native.Mathlib.Omega.{arith}
use lib.Dec.{T}
use Rattle.words.specs.Bytes as Bytes
use Rattle.model.specs.Examples.Parts.{agree}
use Rattle.model.specs.History as History
use Rattle.model.proofs.Definitions.{definitions}
use Rattle.call_log.specs.declared.Record.TheVariants.{Event, ConfigWrite, BarWrite}
use Rattle.call_log.specs.Logs.{Fits}
use Rattle.call_log.specs.Logs as Logs
use Rattle.call_log.specs.Players as Players
use Rattle.call_log.specs.Plays as Plays
use Rattle.call_log.specs.Cuttings as Cuttings
use Rattle.call_log.specs.Cards as Cards
use Rattle.call_log.specs.Recorder as Recorder
use Rattle.call_log.specs.Examples.Formats as Formats
use Rattle.call_log.specs.Examples.States as States
use Rattle.call_log.specs.Examples.Tries as Tries
use Rattle.call_log.specs.Examples.Cuts as Cuts
use Rattle.call_log.specs.Examples.Hosts as Hosts
use Rattle.call_log.specs.Examples.Recordings as Recordings

-- the definitions of request [1] to be unfolded together
unfoldable pub log_definitions : Bool
unfolding
    Bytes.word64 History.called
    Logs.header Logs.size_of Logs.bytes_in Logs.record_in Logs.call_of Logs.record_of
    Players.is_playing Players.fits_later Players.fits_record Players.fits Players.with Players.complete Players.scan Players.counted Players.scanned Players.resumed Players.advanced Players.due_record
    Plays.onward Plays.tried Plays.made Plays.play_of
    Cuttings.whole_of Cuttings.pieced Cuttings.pieced_all
    Cards.on_card Cards.told Cards.acted Cards.acted_all Cards.calls_of Cards.calls_by Cards.calls_made
    Recorder.is_kept Recorder.logged Recorder.appended Recorder.ends_log Recorder.recorded_calls
    Recorder.logged_call Recorder.logged_all Recorder.log_of Recorder.log_told Recorder.is_recorded Recorder.given Recorder.numbered Recorder.left
log_definitions = true

-- mark, version, kinds, lines, sizes, and each record byte for byte
pub formats : T (agree Formats.formats)
unfolding definitions log_definitions
formats = tt

-- the largest numbers that the bytes of a record can hold fit them
pub largest : Fits (Event 0xffff) × Fits (ConfigWrite 0xffff 0xff 0xffffffff) × Fits (BarWrite 0xff 0xffffffff 0xff 0xffffffffffffffff)
largest = (omega (arith), (omega (arith), omega (arith), omega (arith)), (omega (arith), omega (arith), omega (arith), omega (arith)))

-- states of a player, and the number of its records
pub states : T (agree States.states)
unfolding definitions log_definitions
states = tt

-- bytes taken, 30, noted refusals and 6, call by call
pub tries : T (Tries.all_give Tries.try_lists)
unfolding definitions log_definitions
tries = tt

-- a log played whole and by pieces
pub cuts : T (agree Cuts.cuts)
unfolding definitions log_definitions
cuts = tt

-- a card, and a host with its own calls
pub hosts : T (agree Hosts.hosts)
unfolding definitions log_definitions
hosts = tt

-- the recorder
pub recordings : T (agree Recordings.recordings)
unfolding definitions log_definitions
recordings = tt

-- where a withdrawal ends the log
pub withdrawn : T (agree Recordings.withdrawn)
unfolding definitions log_definitions
withdrawn = tt
