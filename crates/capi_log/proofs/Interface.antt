-- The numbers of the logs' interface, computed. Assumes nothing.
use lib.Dec.{T}
use Rattle.model.specs.Examples.Parts.{agree}
use Rattle.model.proofs.Definitions.{definitions}
use Rattle.words.specs.Bytes as Bytes
use Rattle.call_log.specs.Logs as Logs
use Rattle.call_log.specs.Players as Players
use Rattle.call_log.specs.Plays as Plays
use Rattle.call_log.specs.Recorder as Recorder
use Rattle.player.specs.Plays as Playing
use Rattle.capi_log.specs.Crossing as Crossing
use Rattle.capi_log.specs.Recording as Recording
use Rattle.capi_log.specs.Interface as Interface

pub interface : T (agree Interface.interface)
unfolding
    definitions Bytes.word64
    Logs.header Logs.size_of Logs.bytes_in Players.is_playing Players.fits_later Players.scan Players.scanned Players.resumed Players.advanced
    Plays.made Plays.play_of Playing.play_call Recorder.is_kept Recorder.logged Recorder.appended
    Crossing.stage_byte Crossing.stage_of Crossing.player_bytes Crossing.player_in Crossing.is_card Crossing.is_player Crossing.played
    Recording.config_write_of Recording.record_of Recording.wrote_record
interface = tt
