-- One law for each stage of a player that goes on. Assumes nothing.
use mathlib.Core.Path.{sym, ◌∙◌}
use Rattle.call_log.specs.declared.Stage.TheVariants.{Header, Records}
use Rattle.call_log.proofs.ScanLaws.{from_start}
use Rattle.call_log.proofs.PlayerLaws.{advance_stands, advance_scans, header_scans, records-scan, advance_again, advance_broken, in_header}
use Rattle.call_log.proofs.advance.advance.Goals as goal

pub returns-then-not-is_playing : goal.returns-then-not-is_playing
returns-then-not-is_playing c =
    c.stopped.ensures ∙ advance_stands _ _ (sym c.is_playing.ensures ∙ c.if-not-is_playing.true)

pub scan_header-requires : goal.scan_header-requires
scan_header-requires c =
    let plays = sym c.is_playing.ensures ∙ c.if-not-is_playing.false in
    in_header c.args.player c.args.log.now plays c.in-Header.is

pub returns-in-Header : goal.returns-in-Header
returns-in-Header c =
    let plays = sym c.is_playing.ensures ∙ c.if-not-is_playing.false in
    advance_scans _ _ plays Header c.in-Header.is (header_scans _ _) _ _ c.scan_header.ensures c.after_scan.ensures

pub returns-in-Records : goal.returns-in-Records
returns-in-Records c =
    let plays = sym c.is_playing.ensures ∙ c.if-not-is_playing.false in
    advance_scans _ _ plays Records c.in-Records.is (records-scan _ _) _ _ (c.scan_record.ensures ∙ from_start _ _)
    c.after_scan-in-Records.ensures

pub returns-in-Again : goal.returns-in-Again
returns-in-Again c =
    let plays = sym c.is_playing.ensures ∙ c.if-not-is_playing.false in
    advance_again _ _ plays c.in-Again.is

pub returns-in-Broken : goal.returns-in-Broken
returns-in-Broken c =
    let plays = sym c.is_playing.ensures ∙ c.if-not-is_playing.false in
    c.stopped-in-Broken.ensures ∙ advance_broken _ _ plays c.in-Broken.is
