-- `bad_structures` meets its contract: the three parts of check 13. Assumes nothing.
use Rattle.std.proofs.Common.{arith, ap}
use Rattle.std.proofs.lemmas.Grind.{common_steps}
use Rattle.model.specs.declared.Form.{Form}
use Rattle.model.proofs.Shapes.FitLaws.{size_small}
use Rattle.model.specs.Capabilities.{capabilities, listed}
use Rattle.layout.proofs.Checks.{parts}
use Rattle.layout.proofs.structure.bad_structures.Goals as goal

pub bad_msi-requires : goal.bad_msi-requires
bad_msi-requires c =
    (c.requires.0, c.requires.1, omega (arith, ap (λ (f : Form). f.size) c.requires.2, size_small c.args.s))

pub bad_pair-requires : goal.bad_pair-requires
bad_pair-requires c =
    (c.requires.1, omega (arith, ap (λ (f : Form). f.size) c.requires.2, size_small c.args.s))

pub returns-then-bad_msix : goal.returns-then-bad_msix
returns-then-bad_msix c =
    let p = parts (listed (capabilities c.args.c.now)) c.args.s c.args.f.size (ap (λ (f : Form). f.size) c.requires.2) in
    grind (arith, common_steps)

pub returns-else-bad_msix : goal.returns-else-bad_msix
returns-else-bad_msix c =
    let p = parts (listed (capabilities c.args.c.now)) c.args.s c.args.f.size (ap (λ (f : Form). f.size) c.requires.2) in
    grind (arith, common_steps)
