use Rattle.std.proofs.Common.{◌≡◌, ℕ, ◌+◌, ◌-◌, ◌%◌, ap, ◌∙◌, rules, arith}
use lib.ListN.{length-set}
use Rattle.words.specs.Bits.{merge}
use Rattle.words.specs.Bytes.{byte}
use Rattle.registers.proofs.WrittenLaws.{write_next, write_end}
use Rattle.registers.proofs.write.write.Goals as goal

pub loop-k-init : goal.loop-k-init
loop-k-init g c =
    let a = c.args in
    let e : a.at + a.n - a.at ≡ a.n = omega arith in
    (search rules, rw e)

pub loop-k-preserved : goal.loop-k-preserved
loop-k-preserved g c =
    let v = c.loop-k in
    let a = c.args in
    let e = ap (λ (m : ℕ). merge m (byte v.bytes v.k) (v.left % 256)) c.mask.ensures in (
      simp length-set v.invariant.0,
      write_next (g.M.Masks.masks a.registers.now) v.k (a.at + a.n) v.left v.bytes _ v.invariant.1 c.merge.result c.loop-k-test.true (c.merge.ensures ∙ e),
    )

pub returns : goal.returns
returns g c =
    let v = c.loop-k in
    let a = c.args in
    write_end (g.M.Masks.masks a.registers.now) v.k (a.at + a.n) v.left v.bytes _ v.invariant.1 c.loop-k-test.false
