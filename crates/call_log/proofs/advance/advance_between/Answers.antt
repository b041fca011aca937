use mathlib.Core.Path.{◌≡◌, sym, ap, subst, ◌∙◌}
use mathlib.Core.Bool.{true}
use native.Mathlib.Omega.{arith}
use Rattle.call_log.specs.declared.Player.{Player}
use Rattle.call_log.specs.declared.Stage.TheVariants.{Records}
use Rattle.call_log.specs.Players.{player_of, is_playing, scan}
use Rattle.call_log.proofs.ScanLaws.{from_start}
use Rattle.call_log.proofs.PlayerLaws.{between_plays, between_scans}
use Rattle.call_log.proofs.advance.advance_between.Goals as goal

pub scan_record-requires : goal.scan_record-requires
scan_record-requires c =
    (subst (λ (p : Player). is_playing Records p.taken p.part ≡ true) (sym c.between.ensures) between_plays, omega arith)

pub returns : goal.returns
returns c =
    let log = c.args.log.now in
    between_scans c.args.number log _ _
    (c.scan_record.ensures ∙ from_start _ _ ∙ ap (λ (p : Player). scan (player_of Records p.taken p.part p.number) log) c.between.ensures)
    c.after_scan.ensures
