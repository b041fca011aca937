use mathlib.Core.Path.{sym, ap}
use Prim.Native.Nat.{ℕ}
use lib.Dec.{eqb}
use borrow.Author.Tests.{ne_eqb}
use Rattle.call_log.proofs.FormatLaws.{refused-number, not-refused}
use Rattle.call_log.proofs.answer.lacks_room.Goals as goal

pub returns-in_default : goal.returns-in_default
returns-in_default c = sym (ne_eqb _ 6 (not-refused _ c.in_default.not-Refused))

pub returns : goal.returns
returns c =
    ap (λ (n : ℕ). eqb n 6) (sym (refused-number _ _ c.in-Refused.is))
