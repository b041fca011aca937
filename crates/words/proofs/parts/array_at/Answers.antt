-- The slice copied is the part. Assumes nothing.
use Rattle.std.proofs.Common.{rules}
use Rattle.words.specs.Bytes.{part}
use Rattle.words.proofs.parts.array_at.Goals as goal

pub returns : goal.returns
unfolding part
returns g c = search rules
