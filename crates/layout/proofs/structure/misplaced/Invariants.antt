-- The rest of the list is not broken, and all of it stands apart exactly if the whole list does. Assumes nothing.
use Rattle.std.proofs.Common.{◌≡◌, false}
use Rattle.words.specs.Lists.{all}
use Rattle.model.specs.Capabilities.{walk, capabilities, broken, listed}
use Rattle.layout.specs.Checks.{apart}
use Rattle.layout.proofs.structure.misplaced.Given as goal

abbrev pub invariant-loop-at : goal.invariant-loop-at
invariant-loop-at l =
    (l.at-iterator.config.now ≡ l.c) × (broken (walk l.c l.at-iterator.left l.at-iterator.link) ≡ false)
    × (all (apart l.a l.n) (listed (walk l.c l.at-iterator.left l.at-iterator.link)) ≡ all (apart l.a l.n) (listed (capabilities l.c)))
