use Rattle.capi_log.specs.Crossing.{is_between}
use Rattle.capi_log.proofs.bytes.is_between.Goals as goal

pub returns : goal.returns
unfolding is_between
returns c =
    rw (c.word16.ensures, c.word64.ensures, c.word64-2.ensures)
