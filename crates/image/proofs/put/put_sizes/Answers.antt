-- A turn writes the four bytes of its size. Assumes nothing.
use Rattle.std.proofs.Common.{◌≡◌, length, arith, rules, ◌∙◌}
use Rattle.words.specs.Bytes.{bytes_of}
use Rattle.words.proofs.ByteLaws.{length-bytes_of, length_join32}
use Rattle.words.proofs.Sending.{join-next, join_end}
use Rattle.image.proofs.put.put_sizes.Goals as goal

pub loop-size-preserved : goal.loop-size-preserved
loop-size-preserved c =
    let v = c.loop-size in
    let k = c.put_le-at in
    let sizes = c.args.sizes in
    let six : length sizes ≡ 6 = search rules in
    let four : k.result ≡ 4 = k.ensures.count ∙ length-bytes_of 4 _ in
    let wrote = rw c.from.ensures at k.ensures in (
      omega (arith, v.invariant.0, four),
      search rules,
      join-next (bytes_of 4) sizes v.size-index v.at v.out _ v.invariant.2 k.result k.new.out (omega (arith, six)) (omega (arith, v.invariant.0, v.invariant.1, c.requires)) wrote,
    )

pub returns : goal.returns
returns c =
    let v = c.loop-size in
    let sizes = c.args.sizes in
    let six : length sizes ≡ 6 = search rules in
    record {
      count = omega (arith, v.invariant.0, length_join32 sizes, six);
      bytes = join_end (bytes_of 4) sizes v.size-index v.at v.out _ v.invariant.2 (omega (arith, six));
    }
