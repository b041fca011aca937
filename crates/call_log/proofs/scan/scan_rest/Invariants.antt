-- The loop's invariant: what a scan gives from place i on, with the bytes taken so far, is what it gives from `from` on. Assumes nothing.
use mathlib.Core.Path.{◌≡◌}
use mathlib.Core.Bool.{true}
use Prim.Native.Nat.{◌+◌, ◌<◌}
use lib.ListN.{length}
use Rattle.words.specs.Bytes.{byte}
use Rattle.call_log.specs.declared.Stage.TheVariants.{Records}
use Rattle.call_log.specs.Players.{is_playing, player_of}
use Rattle.call_log.specs.Scanning.{scan_from}
use Rattle.call_log.proofs.scan.scan_rest.Given as goal

abbrev pub invariant-loop-i : goal.invariant-loop-i
invariant-loop-i l =
    (is_playing Records l.held.taken l.held.part ≡ true) × (length l.held.part ≡ 15) × (0 < l.held.taken) × (byte l.held.part 0 ≡ l.kind)
    × (l.held.stage ≡ Records) × (l.held.number ≡ l.fn.player.number)
    × (scan_from (l.from + l.i) (player_of Records l.held.taken l.held.part l.fn.player.number) l.log
    ≡ scan_from l.from (player_of Records l.fn.player.taken l.fn.player.part l.fn.player.number) l.log)
