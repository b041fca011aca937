use mathlib.Core.Path.{refl, sym, ap, ◌∙◌}
use native.Mathlib.Omega.{arith}
use borrow.Author.Rules.{rules}
use Prim.Native.Nat.{ℕ, ◌+◌}
use lib.ListN.{length}
use Rattle.call_log.specs.declared.Player.{Player}
use Rattle.call_log.specs.declared.Stage.TheVariants.{Header, Records}
use Rattle.call_log.specs.declared.End.TheVariants.{More}
use Rattle.call_log.specs.Logs.{header}
use Rattle.call_log.specs.Players.{player_of, is_playing, scanned_of}
use Rattle.call_log.specs.Scanning.{scan_from, broken_at}
use Rattle.call_log.proofs.ScanLaws.{from_start, from_end, from-header-wrong, from-header-last, from-header-next}
use Rattle.call_log.proofs.scan.scan_header.Goals as goal

pub loop-i-init : goal.loop-i-init
loop-i-init c = (c.requires, refl, from_start _ _)

pub returns-then-b-held : goal.returns-then-b-held
unfolding header
returns-then-b-held c =
    let v = c.loop-i in
    let a = c.args in
    c.broken.ensures ∙ ap (λ (p : Player). broken_at p.number v.i) v.invariant.1
    ∙ sym (from-header-wrong v.i a.log.now (search rules) v.held.taken a.player.part a.player.number c.if-b-held.true) ∙ v.invariant.2

pub scan_record-requires : goal.scan_record-requires
unfolding is_playing
scan_record-requires c = (refl, omega arith)

pub returns-then-held-eq5 : goal.returns-then-held-eq5
unfolding header
returns-then-held-eq5 c =
    let v = c.loop-i in
    let a = c.args in
    c.scan_record.ensures
    ∙ ap (λ (p : Player). scan_from (v.i + 1) (player_of Records 0 p.part p.number) a.log.now) v.invariant.1
    ∙ sym (from-header-last v.i a.log.now (search rules) v.held.taken a.player.part a.player.number c.if-b-held.false c.if-held-eq5.true)
    ∙ v.invariant.2

pub loop-i-preserved : goal.loop-i-preserved
unfolding header
loop-i-preserved c =
    let v = c.loop-i in
    let a = c.args in (
      omega (arith, v.invariant.0, c.if-held-eq5.false),
      ap (λ (p : Player). player_of p.stage (v.held.taken + 1) p.part p.number) v.invariant.1,
      sym (from-header-next v.i a.log.now (search rules) v.held.taken a.player.part a.player.number c.if-b-held.false c.if-held-eq5.false) ∙ v.invariant.2,
    )

pub returns : goal.returns
returns c =
    let v = c.loop-i in
    let a = c.args in
    ap (λ (p : Player). scanned_of p (length a.log.now) More) v.invariant.1
    ∙ sym (from_end (length a.log.now) (player_of Header v.held.taken a.player.part a.player.number) a.log.now (omega arith))
    ∙ ap (λ (k : ℕ). scan_from k (player_of Header v.held.taken a.player.part a.player.number) a.log.now) (omega arith)
    ∙ v.invariant.2
