use mathlib.Core.Path.{◌≡◌, refl, sym, ap, ◌∙◌}
use mathlib.Core.Bool.{Bool, true}
use Prim.Native.Nat.{ℕ, ◌*◌}
use native.Mathlib.Omega.{arith}
use Rattle.words.specs.Lists.{all, count}
use Rattle.model.specs.Registers.{entry_zero}
use Rattle.words.proofs.ZeroBits.{clean}
use Rattle.registers.proofs.CleanLaws.{zero_bits_lem}
use Rattle.registers.proofs.EntryLaws.{entry-clean}
use Rattle.registers.proofs.table.table_clean.Goals as goal

none : (f : ℕ → Bool) → true ≡ all f (count 0 (16 * 0))
unfolding all count
none f = refl

pub loop-k-init : goal.loop-k-init
loop-k-init c = (omega arith, none _)

pub loop-k-preserved : goal.loop-k-preserved
loop-k-preserved c =
    let v = c.loop-k in
    let t = c.args.table.now in (
      omega arith,
      entry-clean t (λ i. (c.shared_slice_known-1.given i).fits) v.k v.low v.high c.word64-low.result c.word64-high.result
          c.word64-low.ensures c.word64-high.ensures v.invariant.1,
    )

pub returns : goal.returns
returns c =
    let v = c.loop-k in
    let a = c.args in
    let t = a.table.now in
    let e : v.k ≡ a.n = omega arith in
    v.invariant.1 ∙ ap (λ (k : ℕ). all (clean entry_zero t) (count 0 (16 * k))) e ∙ sym (zero_bits_lem entry_zero t (16 * a.n) c.requires)
