-- One way out for each test. Assumes nothing.
use mathlib.Core.Path.{◌≡◌, sym, ◌∙◌}
use native.Mathlib.Omega.{arith}
use borrow.Author.Rules.{rules}
use Rattle.model.specs.Shape.{table_bytes}
use Rattle.vectors.specs.Given.{regs}
use Rattle.model.specs.Vectors.{masked}
use Rattle.model.specs.declared.Mode.TheVariants.{Msix}
use Rattle.vectors.proofs.EntryLaws.{entry-mask}
use Rattle.vectors.proofs.MsixLaws.{no_vector, when_masked, when_clear}
use Rattle.vectors.proofs.msix.msix_is_open.Statement.{statement}
use Rattle.vectors.proofs.msix.msix_is_open.Tie as tie

returns : tie.Need-returns-then-s-n
returns c =
    let a = c.args in
    no_vector a.s (regs a.c.now a.table.now) a.v.0 c.if-s-n.true

entry-of-requires : tie.Need-entry_of-requires
unfolding table_bytes
entry-of-requires c κs =
    omega (arith, c.requires.1)

-- the mask bit is known
module _ (c : tie.After-entry_masked) where
  abbrev start_of : tie.Start
  start_of = c.before.before.before.before.before.before

  mask_is : let a = c.args in c.entry_masked.result ≡ masked Msix a.s (regs a.c.now a.table.now) a.v.0
  mask_is = c.entry_masked.ensures ∙ entry-mask _ _ _ c.entry_of.ensures.1 c.args.s c.args.c.now

returns-2 : tie.Need-returns-then-entry_masked
returns-2 c =
    let a = c.args in
    when_masked a.s (regs a.c.now a.table.now) a.v.0 (sym (mask_is c.before) ∙ c.if-entry_masked.true)

returns-3 : tie.Need-returns
returns-3 c =
    let a = c.args in
    c.msix_enabled.ensures a.table.now
    ∙ when_clear a.s (regs a.c.now a.table.now) a.v.0 c.if-s-n.false
    (sym (mask_is c.before.before) ∙ c.if-entry_masked.false)

pub msix_is_open_spec : {M : Type 1} → statement M
msix_is_open_spec =
    tie.close
    (tie.spec (λ c. search rules) returns entry-of-requires (λ c κs. search rules) returns-2 (λ c κs. search rules) returns-3)
