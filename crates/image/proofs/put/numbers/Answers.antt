-- The nine bytes, flags first. Assumes nothing.
use Rattle.std.proofs.Common.{◌≡◌, ◌/◌, arith}
use Rattle.words.specs.Bytes.{bytes_of}
use Rattle.words.proofs.BitLaws.{flag_number}
use Rattle.image.specs.Layout.{number_bytes}
use Rattle.image.proofs.put.numbers.Goals as goal

pub returns : goal.returns
unfolding number_bytes bytes_of
returns c =
    let f = c.args.card.function in
    let third : f.waiting / 256 / 256 ≡ f.waiting / 65536 = omega arith in
    let fourth : f.waiting / 256 / 256 / 256 ≡ f.waiting / 16777216 = omega arith in
    rw (c.from.ensures, c.from-2.ensures, c.to_le_bytes.ensures, c.to_le_bytes-2.ensures, c.to_le_bytes-3.ensures)
    (rw (flag_number f.line, flag_number c.args.card.wire, fourth, third))
