-- Each way out cites one law of `CallFor`: a port above 7, or the changes. Assumes nothing.
use Rattle.switch.proofs.CallFor.{down-high, down-port}
use Rattle.switch.proofs.down.down.Goals as goal

pub returns-then-port-gt7 : goal.returns-then-port-gt7
returns-then-port-gt7 c = down-high _ _ _ _ c.if-port-gt7.true c.refuse.ensures

pub returns : goal.returns
returns c =
    down-port _ _ _ _ _ c.if-port-gt7.false c.without_port-next.ensures c.send_changes.ensures
