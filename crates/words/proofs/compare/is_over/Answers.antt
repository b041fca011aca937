-- The front decides, or else the rest does. Assumes nothing.
use mathlib.Core.Path.{ap, ap₂, ◌∙◌}
use mathlib.Core.List.{List}
use Prim.Native.Nat.{ℕ}
use lib.ListN.{length, drop, length-drop}
use lib.Seq.{take_all}
use native.Mathlib.Omega.{arith}
use Rattle.words.specs.Lists.{same}
use Rattle.words.proofs.PartLaws.{other_front, same_front}
use Rattle.words.proofs.compare.is_over.Goals as goal

pub returns-then-same : goal.returns-then-same
returns-then-same c =
    let args = c.args in
    let out = args.out.now in
    let old = args.old.now in
    let n = length args.bytes.now in
    c.same-then-same.ensures
    ∙ ap₂ same (c.part-then-same.ensures ∙ take_all (length out) (drop n out) (omega (arith, length-drop n out)))
    (c.part-then-same-2.ensures ∙ take_all (length old) (drop n old) (omega (arith, length-drop n old)))
    ∙ same_front out args.bytes.now old _
    (c.same.ensures ∙ ap (λ (l : List ℕ). same l args.bytes.now) c.part.ensures) c.if-same.true

pub returns-else-same : goal.returns-else-same
returns-else-same c =
    let args = c.args in
    other_front args.out.now args.bytes.now args.old.now _
    (c.same.ensures ∙ ap (λ (l : List ℕ). same l args.bytes.now) c.part.ensures) c.if-same.false
