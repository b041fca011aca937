-- All 32 bits, or the 16 of the register. Assumes nothing.
use mathlib.Core.Path.{◌≡◌, sym, ◌∙◌}
use mathlib.Core.Bool.{true}
use mathlib.Core.List.{[]}
use Prim.Native.Nat.{◌+◌, ◌≤◌}
use native.Mathlib.Omega.{arith}
use lib.ListN.{length}
use borrow.Author.Rules.{rules}
use Rattle.vectors.specs.Given.{regs}
use Rattle.model.proofs.MessageData.{data_inside}
use Rattle.vectors.proofs.FormLaws.{message_inside}
use Rattle.vectors.proofs.MessageLaws.{all_data, low_data, extended-capable}
use Rattle.vectors.proofs.message.msi_data.Statement.{statement}
use Rattle.vectors.proofs.message.msi_data.Tie as tie

-- the register lies inside the configuration
inside : (c : tie.Start) → c.args.s.msi.at + c.args.f.message + 2 ≤ 256
inside c = rw c.requires.1 (omega (arith, message_inside c.args.s, c.requires.0))

-- and with control bit 9 the upper half
upper_inside : (c : tie.Start) → c.args.s.msi.extended ≡ true → c.args.s.msi.at + c.args.f.message + 4 ≤ 256
upper_inside c e = rw c.requires.1 (omega (arith, data_inside c.args.s e, c.requires.0))

-- past the test of the control bits
module _ (c : tie.After-data_extended) where
  abbrev start : tie.Start
  start = c.before.before.before

add_at : tie.Need-overflow_add-at
add_at c = omega (arith, inside c.before.before)

word32-requires : tie.Need-word32-requires
word32-requires c κs =
    let a = c.args in
    let e = extended-capable a.s (regs a.c.now []) (sym c.if-data_extended.true ∙ c.data_extended.ensures []) in
    let n : length a.c.now ≡ 256 = search rules in
    omega (arith, upper_inside (start c.before.before) e, n)

returns : tie.Need-returns-then-data_extended
returns c =
    let a = c.args in
    λ t. c.word32.ensures ∙ all_data a.s a.f c.requires.1 (regs a.c.now t) (sym c.if-data_extended.true ∙ c.data_extended.ensures t)

word16-requires : tie.Need-word16-requires
word16-requires c κs =
    let n : length c.args.c.now ≡ 256 = search rules in
    omega (arith, inside c.before.before.before.before.before, n)

returns-2 : tie.Need-returns
returns-2 c =
    let a = c.args in
    λ t. c.word16.ensures ∙ low_data a.s a.f c.requires.1 (regs a.c.now t) (sym c.if-data_extended.false ∙ c.data_extended.ensures t)

pub msi_data_spec : {M : Type 1} → statement M
msi_data_spec = tie.close (tie.spec add_at (λ c κs. search rules) word32-requires returns word16-requires (λ c. search rules) returns-2)
