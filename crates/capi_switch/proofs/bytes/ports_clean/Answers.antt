-- Each port below its limit; of a port that is not, the search cites `wide_port`. Assumes nothing.
use native.Mathlib.Omega.{arith}
use Rattle.capi_switch.proofs.CrossingFor.{clean_ports}
use Rattle.capi_switch.proofs.bytes.ports_clean.Goals as goal

pub returns-in-0-to-15 : goal.returns-in-0-to-15
returns-in-0-to-15 c = clean_ports _ (omega arith) (omega arith) (omega arith) (omega arith) (omega arith) (omega arith) (omega arith) (omega arith)
