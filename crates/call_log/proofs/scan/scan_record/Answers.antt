-- The kind byte by one law for each way out, and then the bytes behind it. Assumes nothing.
use mathlib.Core.Path.{◌≡◌, sym, ◌∙◌}
use native.Mathlib.Omega.{arith}
use borrow.Author.Rules.{rules}
use lib.ListN.{length}
use Rattle.words.specs.Bytes.{byte}
use Rattle.call_log.proofs.ScanLaws.{from_end, starts_wrong, starts_whole, starts_more, starts_reading}
use Rattle.call_log.proofs.scan.scan_record.Goals as goal

pub returns-then-from-log : goal.returns-then-from-log
returns-then-from-log c = sym (from_end _ _ _ (omega (arith, c.if-from-log.true)))

pub returns-in_default : goal.returns-in_default
returns-in_default c =
    c.broken.ensures
    ∙ starts_wrong c.args.from c.args.log.now (omega (arith, c.requires.1, c.if-from-log.false)) c.args.player.part c.args.player.number
    c.args.player.taken (omega (arith, c.if-held-gt0.false)) c.in_default.ensures

pub returns-then-size-eq1 : goal.returns-then-size-eq1
returns-then-size-eq1 c =
    let part : length c.args.player.part ≡ 15 = search rules in
    starts_whole c.args.from c.args.log.now (omega (arith, c.requires.1, c.if-from-log.false)) c.args.player.part c.args.player.number
    c.args.player.taken (omega (arith, c.if-held-gt0.false)) (omega (arith, part)) _ c.in-Some.ensures c.if-size-eq1.true

pub scan_rest-requires-2 : goal.scan_rest-requires-2
scan_rest-requires-2 c =
    let part : length c.args.player.part ≡ 15 = search rules in (
      starts_reading c.args.player.part (byte c.args.log.now c.args.from) (omega (arith, part)) _ c.in-Some.ensures c.if-size-eq1.false,
      omega arith,
      omega (arith, c.requires.1, c.if-from-log.false),
    )

pub returns : goal.returns
returns c =
    let part : length c.args.player.part ≡ 15 = search rules in
    c.scan_rest-2.ensures
    ∙ starts_more c.args.from c.args.log.now (omega (arith, c.requires.1, c.if-from-log.false)) c.args.player.part c.args.player.number
    c.args.player.taken (omega (arith, c.if-held-gt0.false)) (omega (arith, part)) _ c.in-Some.ensures c.if-size-eq1.false
