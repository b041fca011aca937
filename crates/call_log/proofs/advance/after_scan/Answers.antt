use Rattle.std.proofs.Common.{rules}
use Rattle.call_log.proofs.PlayerLaws.{scanned_more, scanned_wrong, scanned_whole}
use Rattle.call_log.proofs.advance.after_scan.Goals as goal

pub returns-in-More : goal.returns-in-More
returns-in-More c = scanned_more _ c.in-More.is

pub returns-in-Whole : goal.returns-in-Whole
returns-in-Whole c = scanned_whole _ _ c.in-Whole.is c.counted.ensures

pub returns-in-Wrong : goal.returns-in-Wrong
returns-in-Wrong c = scanned_wrong c.args.s _ c.in-Wrong.is (search rules)
