-- The loop's invariant: what a scan gives from place i on, with the bytes taken so far, is what it gives from the start on. Assumes nothing.
use mathlib.Core.Path.{◌≡◌}
use Prim.Native.Nat.{◌<◌}
use Rattle.call_log.specs.declared.Stage.TheVariants.{Header}
use Rattle.call_log.specs.Players.{player_of, scan}
use Rattle.call_log.specs.Scanning.{scan_from}
use Rattle.call_log.proofs.scan.scan_header.Given as goal

abbrev pub invariant-loop-i : goal.invariant-loop-i
invariant-loop-i l =
    (l.held.taken < 5) × (l.held ≡ player_of Header l.held.taken l.fn.player.part l.fn.player.number)
    × (scan_from l.i (player_of Header l.held.taken l.fn.player.part l.fn.player.number) l.log ≡ scan (player_of Header l.fn.player.taken l.fn.player.part l.fn.player.number) l.log)
