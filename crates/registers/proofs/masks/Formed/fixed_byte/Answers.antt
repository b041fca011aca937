-- And with a complement clears. Assumes nothing.
use mathlib.Core.Path.{ap, ap₂, ◌∙◌}
use Prim.Native.Nat.{ℕ, ◌-◌, ◌<◌}
use native.Mathlib.Omega.{arith}
use lib.Bits.{bit_and}
use Rattle.words.specs.Bits.{clear}
use Rattle.words.proofs.BitLaws.{and-not, clear-le}
use Rattle.model.specs.Registers.{fixed_byte}
use borrow.Author.Rules.{rules}
use Rattle.registers.proofs.masks.Formed.fixed_byte.Goals as goal

pub returns : goal.returns
unfolding fixed_byte
returns c =
    let b = c.args.b in
    let w = c.writable.result in
    let z = c.stored_zero.result in
    let h : b < 256 = search rules in
    ap (bit_and (0xff - w)) (and-not 8 z b (search rules) h)
    ∙ and-not 8 w (clear z b) (search rules) (omega (arith, clear-le z b))
    ∙ ap₂ (λ (m n : ℕ). clear m (clear n b)) c.writable.ensures c.stored_zero.ensures
