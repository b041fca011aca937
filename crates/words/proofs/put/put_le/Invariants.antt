-- The bytes of what is left of the number are still to be stored. Assumes nothing.
use Rattle.std.proofs.Common.{◌≡◌, ◌-◌, length}
use Rattle.words.specs.Bytes.{bytes_of}
use Rattle.words.specs.Writers.{put_at}
use Rattle.words.proofs.put.put_le.Given as goal

abbrev pub invariant-loop-x : goal.invariant-loop-x
invariant-loop-x l = (length l.x-items ≡ l.n) × (put_at l.x-index (bytes_of (l.n - l.x-index) l.left) l.x-items ≡ bytes_of l.n l.value)
