-- The two parts of the test. Assumes nothing.
use Rattle.layout.proofs.Checks.{msix_absent, msix_there}
use Rattle.vectors.proofs.mode.msix_on.Goals as goal

pub returns-then-s-eq0 : goal.returns-then-s-eq0
returns-then-s-eq0 c = λ t. rw (msix_absent c.args.s c.if-s-eq0.true)

pub returns : goal.returns
returns c = λ t. rw (msix_there c.args.s c.if-s-eq0.false) (c.msix_control_bit.ensures t)
