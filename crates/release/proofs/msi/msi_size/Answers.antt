-- As many messages of one size as there are set bits. Assumes nothing.
use mathlib.Core.Path.{sym, ap₂, ◌∙◌}
use Prim.Native.Nat.{◌+◌, ◌*◌, ◌^◌, ◌≤◌, ◌<◌}
use native.Mathlib.Nat.{mul-le-mul, mul_comm}
use native.Mathlib.Omega.{arith}
use lib.Count.{ones-le}
use Rattle.words.proofs.OnesLaws.{length-set_bits}
use Rattle.model.specs.Packets.{message, message_size}
use Rattle.model.proofs.Vectors.PacketLaws.{message-length, size-le}
use Rattle.release.specs.Owed.{set_bits}
use Rattle.words.proofs.ListLaws.{join_each}
use borrow.Author.Rules.{rules}
use Rattle.release.proofs.msi.msi_size.Goals as goal

pub overflow_mul-result : goal.overflow_mul-result
overflow_mul-result c =
    let a = c.args in
    let h : a.owed < 2 ^ 32 = search rules in
    let s : c.message_size.result ≤ 20 = rw c.message_size.ensures (size-le a.upper) in
    omega (arith, mul-le-mul (ones-le 32 a.owed h) s)

pub returns : goal.returns
returns c requester address base =
    let a = c.args in
    sym
    (join_each (λ v. message requester a.upper address (base + v)) (message_size a.upper) (set_bits 32 a.owed)
    (λ v. message-length requester a.upper address (base + v))
    ∙ ap₂ ◌*◌ (sym c.message_size.ensures) (length-set_bits 32 a.owed (search rules)) ∙ mul_comm _ _)
