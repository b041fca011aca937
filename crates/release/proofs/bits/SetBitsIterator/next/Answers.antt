-- The lowest set bit, by its function or by trailing zeros, and the word without it. Assumes nothing.
use mathlib.Core.Path.{ap}
use native.Mathlib.Omega.{arith}
use lib.ListN.{length}
use borrow.Author.Rules.{rules}
use Rattle.words.proofs.OnesLaws.{no_set_bits}
use Rattle.words.proofs.LowestLaws.{lowest_trailing}
use Rattle.words.proofs.SetBits.{turn}
use Rattle.release.proofs.bits.SetBitsIterator.next.Goals as goal

pub returns-then-self-eq0-clause-steps : goal.returns-then-self-eq0-clause-steps
returns-then-self-eq0-clause-steps c =
    rw c.if-self-eq0.true (no_set_bits 64, no_set_bits 64)

pub returns-clause-steps : goal.returns-clause-steps
returns-clause-steps c =
    let w = c.args.self.now.0 in
    let trailing = lowest_trailing 64 w (omega (arith, c.if-self-eq0.false)) (search rules) in
    (turn 64 w _ (search rules) (search (rules, trailing))).rest

pub returns-clause-goes : goal.returns-clause-goes
returns-clause-goes c =
    record { on = λ _. (tt, tt, omega (arith, ap length (returns-clause-steps c))); keeps = tt; rests = λ _. tt }
