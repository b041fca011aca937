-- The bytes of the sizes from the index on are still to be written. Assumes nothing.
use Rattle.std.proofs.Common.{◌≡◌, ◌*◌, length, drop}
use Rattle.words.specs.Lists.{join}
use Rattle.words.specs.Bytes.{bytes_of}
use Rattle.words.specs.Writers.{put_at, over}
use Rattle.image.proofs.put.put_sizes.Given as goal

abbrev pub invariant-loop-size : goal.invariant-loop-size
invariant-loop-size l =
    (l.at ≡ 4 * l.size-index) × (length l.out ≡ length l.fn.out)
    × (put_at l.at (join (bytes_of 4) (drop l.size-index l.fn.sizes)) l.out ≡ over (join (bytes_of 4) l.fn.sizes) l.fn.out)
