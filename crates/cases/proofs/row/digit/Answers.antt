use native.Mathlib.Omega.{arith}
use borrow.Author.Tests.{le-leb, lt-leb}
use Rattle.cases.specs.Rows.{digit_of}
use Rattle.cases.proofs.row.digit.Goals as goal

pub returns-then-b-ge65 : goal.returns-then-b-ge65
unfolding digit_of
returns-then-b-ge65 c = (rw (le-leb 65 _ c.if-b-ge65.true), omega arith)

pub returns-then-b-ge48 : goal.returns-then-b-ge48
unfolding digit_of
returns-then-b-ge48 c = (rw (lt-leb 65 _ c.if-b-ge65.false, le-leb 48 _ c.if-b-ge48.true), omega arith)

pub returns : goal.returns
unfolding digit_of
returns c = (rw (lt-leb 65 _ c.if-b-ge65.false, lt-leb 48 _ c.if-b-ge48.false), omega arith)
