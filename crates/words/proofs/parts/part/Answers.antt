use mathlib.Core.Path.{ap, ◌∙◌}
use mathlib.Core.List.{List}
use Prim.Native.Nat.{ℕ}
use lib.ListN.{take}
use Rattle.words.proofs.PartLaws.{clipped_part, clipped_rest, to_end}
use Rattle.words.proofs.parts.part.Goals as goal

pub returns : goal.returns
returns c =
    let args = c.args in
    clipped_part _ args.size _ c.clipped-n.ensures.0
    ∙ ap (λ (l : List ℕ). take args.size l)
    (to_end c.clipped-from.result args.s.now ∙ clipped_rest _ args.place args.s.now c.clipped-from.ensures.0)
