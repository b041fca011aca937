-- The base and the vector. Assumes nothing.
use mathlib.Core.Path.{ap, ◌∙◌}
use mathlib.Core.List.{[]}
use Prim.Native.Nat.{◌+◌}
use native.Mathlib.Omega.{arith}
use Rattle.model.specs.Packets.{message}
use Rattle.vectors.specs.Given.{regs}
use Rattle.vectors.specs.declared.message.Message.{Message}
use Rattle.vectors.proofs.MessageLaws.{base_message}
use Rattle.vectors.proofs.message.msi_message.Goals as goal

pub overflow_add-result : goal.overflow_add-result
overflow_add-result c =
    omega (arith, (c.msi_base-base.ensures []).1, c.requires.2 [])

pub returns : goal.returns
returns c =
    let a = c.args in
    λ requester t.
    ap (λ (m : Message). message requester m.upper m.address (m.value + a.v.0)) (c.msi_base-base.ensures t).0
    ∙ base_message a.s (regs a.c.now t) requester a.v.0
