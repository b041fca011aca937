use mathlib.Core.Path.{◌≡◌}
use native.Mathlib.Omega.{arith}
use lib.ListN.{length}
use Rattle.words.specs.Bytes.{byte}
use borrow.Author.Rules.{rules}
use Rattle.call_log.proofs.Reading.{size-le}
use Rattle.call_log.proofs.advance.held_record.Goals as goal

pub record_in-requires : goal.record_in-requires
record_in-requires c =
    let n : length c.args.player.part ≡ 15 = search rules in
    omega (arith, n, size-le (byte c.args.player.part 0))
