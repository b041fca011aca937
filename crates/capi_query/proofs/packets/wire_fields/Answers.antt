use mathlib.Core.Path.{ap}
use Prim.Native.Nat.{ℕ}
use Rattle.words.proofs.BitLaws.{flag_number}
use Rattle.capi_query.specs.Fields.{fields, wire_fields}
use Rattle.capi_query.proofs.packets.wire_fields.Goals as goal

pub returns : goal.returns
unfolding wire_fields
returns c =
    let a = c.args in
    ap (λ (x : ℕ). fields 0 a.count 2 a.w.requester 0 0 a.w.pin x) (flag_number a.w.active)
