-- The two parts of the test. Assumes nothing.
use Rattle.layout.proofs.Checks.{msi_absent, msi_there}
use Rattle.vectors.proofs.mode.msi_on.Goals as goal

pub returns-then-s-eq0 : goal.returns-then-s-eq0
returns-then-s-eq0 c = λ t. rw (msi_absent c.args.s c.if-s-eq0.true)

pub returns : goal.returns
returns c = λ t. rw (msi_there c.args.s c.if-s-eq0.false) (c.msi_control_bit.ensures t)
