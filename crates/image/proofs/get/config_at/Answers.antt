use mathlib.Core.Path.{sym}
use native.Mathlib.Omega.{arith}
use lib.ListN.{length-set}
use Rattle.words.specs.Bytes.{part}
use Rattle.words.proofs.ByteLaws.{length_part, byte-part}
use Rattle.words.proofs.PutLaws.{fill_start, fill_next, fill_end}
use Rattle.image.proofs.get.config_at.Goals as goal

pub loop-i-init : goal.loop-i-init
loop-i-init c =
    let a = c.args in
    let n = length_part a.s.now a.at 256 c.requires in
    (omega arith, n, fill_start _ _ (sym n))

pub loop-i-preserved : goal.loop-i-preserved
loop-i-preserved c =
    let v = c.loop-i in
    let a = c.args in
    let w = part a.at 256 a.s.now in
    (omega arith, v.invariant.1, fill_next w v.config v.i _ (omega arith) (sym (byte-part a.s.now a.at 256 v.i (omega arith))) v.invariant.2 (simp length-set))

pub returns : goal.returns
returns c =
    let v = c.loop-i in
    let a = c.args in
    fill_end (part a.at 256 a.s.now) v.config v.i (omega (arith, v.invariant.1)) v.invariant.2
