-- The last word, shifted down by the bits in use. Assumes nothing.
use mathlib.Core.Path.{ap, ◌∙◌}
use Prim.Native.Nat.{ℕ, ◌/◌, ◌%◌, ◌^◌}
use lib.Dec.{eqb}
use Rattle.release.proofs.Beyond.{beyond-none, beyond_word}
use Rattle.release.proofs.pending.none_beyond.Goals as goal

pub returns-then-used-eq0 : goal.returns-then-used-eq0
returns-then-used-eq0 c = beyond-none _ c.args.n _ c.requires c.if-used-eq0.true

pub returns : goal.returns
returns c =
    ap (λ (x : ℕ). eqb (x / 2 ^ (c.args.n % 64)) 0) c.word64.ensures
    ∙ beyond_word c.args.pending.now c.args.n (λ i. (c.shared_slice_known-1.given i).fits) c.requires c.if-used-eq0.false
