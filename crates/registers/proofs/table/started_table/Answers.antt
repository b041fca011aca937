use mathlib.Core.Path.{◌≡◌, ap, ◌∙◌}
use mathlib.Core.List.{List}
use Prim.Native.Nat.{ℕ, ◌*◌}
use native.Mathlib.Omega.{arith}
use lib.ListN.{length, length-set, length-replicate, get_or-replicate}
use Rattle.words.specs.Bytes.{byte}
use Rattle.registers.proofs.EntryLaws.{started_none, started-more, started-all}
use Rattle.registers.proofs.table.started_table.Goals as goal

pub loop-k-init : goal.loop-k-init
loop-k-init c =
    let a = c.args in
    let o = a.table.now in
    let n : length c.fill.new.out ≡ 16 * a.n = ap length c.fill.ensures ∙ length-replicate (length o) 0 ∙ c.requires in (
      omega arith,
      n,
      λ i h. ap (λ (l : List ℕ). byte l i) c.fill.ensures ∙ get_or-replicate (length o) i 0 0 (omega (arith, c.requires)) ∙ started_none i,
    )

pub loop-k-preserved : goal.loop-k-preserved
loop-k-preserved c =
    let v = c.loop-k in (
      omega arith,
      simp length-set v.invariant.1,
      λ i h. started-more v.table v.k (omega arith) v.invariant.2 i (rw length-set at h),
    )

pub returns : goal.returns
returns c =
    let v = c.loop-k in
    let n = c.args.n in
    let e : v.k ≡ n = omega arith in
    started-all v.table n v.invariant.1 (rw e at v.invariant.2)
