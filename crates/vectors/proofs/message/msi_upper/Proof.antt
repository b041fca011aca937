-- The register of the 64-bit forms, or 0. Assumes nothing.
use mathlib.Core.Bool.{true}
use mathlib.Core.Path.{◌≡◌, ◌∙◌}
use native.Mathlib.Omega.{arith}
use lib.ListN.{length}
use borrow.Author.Tests.{not-true, not-false}
use borrow.Author.Rules.{rules}
use Rattle.vectors.specs.Given.{regs}
use Rattle.vectors.proofs.MessageLaws.{no_upper, has_upper}
use Rattle.vectors.proofs.FormLaws.{upper_inside}
use Rattle.vectors.proofs.message.msi_upper.Statement.{statement}
use Rattle.vectors.proofs.message.msi_upper.Tie as tie

is_wide : (c : tie.Else-not-s) → c.before.before.args.s.msi.wide ≡ true
is_wide c = not-false c.args.s.msi.wide c.if-not-s.false

returns : tie.Need-returns-then-not-s
returns c =
    let a = c.args in
    λ t. no_upper a.s (regs a.c.now t) (not-true a.s.msi.wide c.if-not-s.true)

word32-requires : tie.Need-word32-requires
word32-requires c κs =
    let n : length c.args.c.now ≡ 256 = search rules in
    omega (arith, n, c.requires, upper_inside c.args.s (is_wide c.before.before))

returns-2 : tie.Need-returns
returns-2 c =
    let a = c.args in
    λ t. c.word32.ensures ∙ has_upper a.s (regs a.c.now t) (is_wide c.before.before.before)

pub msi_upper_spec : {M : Type 1} → statement M
msi_upper_spec = tie.close (tie.spec returns (λ c. search rules) word32-requires returns-2)
