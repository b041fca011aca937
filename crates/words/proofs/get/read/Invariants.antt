-- The bytes that the iterator still has are those below the ones that r is the number of. Assumes nothing.
use Rattle.words.proofs.ReadLaws.{Reads}
use Rattle.words.proofs.get.read.Given as goal

abbrev pub invariant-loop-x : goal.invariant-loop-x
invariant-loop-x l = Reads l.s l.at l.n l.x-iterator.iter.rest.now l.r
