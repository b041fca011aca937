use Rattle.std.proofs.Common.{sym, arith, ◌≡◌, ◌%◌, length, take}
use lib.ListN.{length-set}
use lib.Seq.{length-take-le}
use native.Mathlib.Nat.{sub-zero}
use Rattle.words.specs.Bytes.{bytes_of}
use Rattle.words.proofs.ByteLaws.{length-bytes_of, bytes_of-next, bytes_of_end}
use Rattle.words.proofs.PutLaws.{put_next, put_end, over-all}
use Rattle.words.proofs.put.put_le.Goals as goal

pub loop-x-init : goal.loop-x-init
loop-x-init c =
    let a = c.args in
    let room : length (take a.n a.out.now) ≡ a.n = length-take-le a.n a.out.now c.requires.1 in
    (room, rw sub-zero (over-all (bytes_of a.n a.value) (take a.n a.out.now) (omega (arith, room, length-bytes_of a.n a.value))))

pub loop-x-preserved : goal.loop-x-preserved
loop-x-preserved c =
    let v = c.loop-x in
    let n = c.args.n in (
      simp length-set v.invariant.0,
      put_next v.x-index (v.left % 256) _ _ v.x-items _ (omega arith) (bytes_of-next n v.x-index v.left (omega arith)) v.invariant.1,
    )

pub returns : goal.returns
returns c =
    let v = c.loop-x in
    let a = c.args in
    record {
      count = sym (length-bytes_of a.n a.value);
      bytes = rw (length-bytes_of, put_end v.x-index _ v.x-items _ (bytes_of_end a.n v.x-index v.left (omega arith)) v.invariant.1);
    }
