-- Each buffer is written over whole by the part of the image that is as long. Assumes nothing.
use mathlib.Core.Path.{◌≡◌, sym, ◌∙◌}
use mathlib.Core.List.{List}
use Prim.Native.Nat.{ℕ, ◌+◌, ◌-◌, ◌≤◌}
use native.Mathlib.Omega.{arith}
use lib.ListN.{length, take, drop, length-drop}
use lib.Seq.{length-take-le, take_all, drop-drop}
use Rattle.words.specs.Writers.{over}
use Rattle.words.proofs.PutLaws.{over-all}
use Rattle.image.proofs.buffers.copy_buffers.Goals as goal

-- the bytes of l from place a on, over a buffer t that they fill
copied : (l t : List ℕ) (a m : ℕ) → a + length t ≤ length l → m ≡ length t → over (take m (drop a l)) t ≡ take (length t) (drop a l)
copied l t a m h e =
    let n : length t ≤ length (drop a l) = rw length-drop (omega arith) in
    rw e (over-all (take (length t) (drop a l)) t (omega (arith, length-take-le (length t) (drop a l) n)))

rest : (l p : List ℕ) (n : ℕ) → length l ≡ 294 + n + length p → take (length p) (drop (294 + n) l) ≡ drop n (drop 294 l)
rest l p n h =
    let k : length (drop (294 + n) l) ≤ length p = rw length-drop (omega arith) in
    take_all (length p) (drop (294 + n) l) k ∙ sym (drop-drop n 294 l)

pub returns : goal.returns
returns c =
    let l = c.args.image.now in
    let t = c.args.table.now in
    let p = c.args.pending.now in (
      c.put_slice.ensures.bytes ∙ copied l t 294 (294 + length t - 294) (omega (arith, c.requires)) (omega arith),
      c.put_slice-2.ensures.bytes ∙ copied l p (294 + length t) (length l - (294 + length t)) (omega (arith, c.requires))
          (omega (arith, c.requires)) ∙ rest l p (length t) c.requires,
    )
