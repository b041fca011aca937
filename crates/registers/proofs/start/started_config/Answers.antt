-- Four parts are fixed. Assumes nothing.
use mathlib.Core.Path.{ap}
use Prim.Native.Nat.{◌+◌, min}
use borrow.Author.Rules.{rules}
use Rattle.model.specs.declared.Form.{Form}
use Rattle.registers.proofs.PartLaws.{four_parts}
use Rattle.registers.proofs.start.started_config.Goals as goal

pub returns : goal.returns
returns c =
    let s = c.args.s in
    let size = ap (λ (f : Form). min (s.msi.at + f.size) 256) c.requires.1 in
    four_parts s c.args.c.now _ _ _ size c.part_end.ensures c.part_end-2.ensures c.told-c _ _ _ _
    (rw c.filled-config.ensures at c.fix_command.ensures) c.fix_line.ensures c.fix_msi.ensures c.fix_part.ensures (search rules)
