-- A part of one byte. Assumes nothing.
use mathlib.Core.Path.{◌≡◌}
use native.Mathlib.Omega.{arith}
use borrow.Author.Rules.{rules}
use lib.ListN.{length}
use Rattle.model.specs.Registers.{fixed_byte}
use Rattle.registers.proofs.PartLaws.{part-one}
use Rattle.registers.proofs.masks.Formed.fix_line.Goals as goal

pub returns : goal.returns
returns c =
    let a = c.args in
    let size : length a.config.now ≡ 256 = search rules in
    part-one (fixed_byte a.self.now.shape) 0x3c a.config.now c.fixed_byte.result (omega (arith, size)) c.fixed_byte.ensures
