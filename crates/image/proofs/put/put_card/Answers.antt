-- Numbers, sizes and configuration, one writer behind the other. Assumes nothing.
use Rattle.std.proofs.Common.{◌≡◌, ◌≤◌, List, [], ℕ, ◌+◌, ◌-◌, ◌++◌, length, ap, arith, rules, subst, ◌∙◌}
use lib.ListN.{length-take, length-drop}
use borrow.Rule.Slice.PartMut.{put_mid}
use Rattle.words.specs.Lists.{join}
use Rattle.words.specs.Bytes.{bytes_of}
use Rattle.words.specs.Writers.{Wrote}
use Rattle.words.proofs.Writers.{behind}
use Rattle.image.specs.Layout.{number_bytes}
use Rattle.image.proofs.CardLaws.{card_parts, number-length, sizes-length}
use Rattle.image.proofs.put.put_card.Goals as goal

-- there is room for the configuration behind numbers and sizes
pub put_slice-requires : goal.put_slice-requires
put_slice-requires c =
    let card = c.args.card in
    let k₁ = c.put_slice-a in
    let k₂ = c.put_sizes in
    let six : length card.function.sizes ≡ 6 = search rules in
    let size : length card.function.config ≡ 256 = search rules in
    let nine : k₁.result ≡ 9 = k₁.ensures.count ∙ ap length c.numbers-numbers.ensures ∙ number-length card in
    let twenty_four : k₂.result ≡ 24 = k₂.ensures.count ∙ sizes-length card.function.sizes six in
    let out = put_mid k₁.result (length k₁.new.out - k₁.result) k₁.new.out k₂.new.out in
    let kept : length out ≡ length k₁.new.out = search rules in
    let room : k₁.result + k₂.result + 256 ≤ length out = omega (arith, nine, twenty_four, kept, k₁.auto.out, c.requires) in
    simp (length-take, length-drop) (omega (arith, room, size))

pub returns : goal.returns
returns c =
    let a = c.args in
    let k₁ = c.put_slice-a in
    let k₂ = c.put_sizes in
    let k₃ = c.put_slice in
    let numbers = number_bytes a.card in
    let sizes = join (bytes_of 4) a.card.function.sizes in
    let one = subst (λ (l : List ℕ). Wrote l a.out.now k₁.result k₁.new.out) c.numbers-numbers.ensures k₁.ensures in
    let two = behind numbers sizes a.out.now k₁.new.out k₂.new.out k₁.result k₂.result one k₂.ensures in
    rw (card_parts a.card [] []) (behind (numbers ++ sizes) a.card.function.config a.out.now _ k₃.new.out (k₁.result + k₂.result) k₃.result two k₃.ensures)
