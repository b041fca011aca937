-- Mark and version, card, table and pending array, one writer behind the other. Assumes nothing.
use Rattle.std.proofs.Common.{◌≡◌, ◌≤◌, length, ◌++◌, ◌+◌, ◌-◌, [], arith, rules, ◌∙◌}
use lib.ListN.{length-take, length-drop}
use borrow.Rule.Slice.PartMut.{put_mid}
use Rattle.words.specs.Bytes.{bytes_of}
use Rattle.words.proofs.Writers.{behind}
use Rattle.model.specs.World.{world_of}
use Rattle.model.specs.Image.{mark, card_bytes, image_of}
use Rattle.image.proofs.CardLaws.{start-length, card-length, card_alone}
use Rattle.image.proofs.put.put_image.Goals as goal

pub put_card-requires : goal.put_card-requires
put_card-requires c =
    let five : c.put_start-a.result ≡ 5 = c.put_start-a.ensures.count ∙ start-length in
    simp (length-take, length-drop) (omega (arith, five, c.put_start-a.auto.out, c.requires))

pub put_slice-requires : goal.put_slice-requires
put_slice-requires c =
    let card = c.args.card in
    let k₁ = c.put_start-a in
    let k₂ = c.put_card in
    let six : length card.function.sizes ≡ 6 = search rules in
    let size : length card.function.config ≡ 256 = search rules in
    let five : k₁.result ≡ 5 = k₁.ensures.count ∙ start-length in
    let wrote : k₂.result ≡ 289 = k₂.ensures.count ∙ card-length card [] [] six size in
    let out = put_mid k₁.result (length k₁.new.out - k₁.result) k₁.new.out k₂.new.out in
    let kept : length out ≡ length k₁.new.out = search rules in
    let room : k₁.result + k₂.result + length c.args.table.now ≤ length out = omega (arith, five, wrote, kept, k₁.auto.out, c.requires) in
    simp (length-take, length-drop) (omega (arith, room))

pub put_slice-requires-2 : goal.put_slice-requires-2
put_slice-requires-2 c =
    let card = c.args.card in
    let k₁ = c.put_start-a in
    let k₂ = c.put_card in
    let k₃ = c.put_slice in
    let six : length card.function.sizes ≡ 6 = search rules in
    let size : length card.function.config ≡ 256 = search rules in
    let five : k₁.result ≡ 5 = k₁.ensures.count ∙ start-length in
    let wrote : k₂.result ≡ 289 = k₂.ensures.count ∙ card-length card [] [] six size in
    let out₂ = put_mid k₁.result (length k₁.new.out - k₁.result) k₁.new.out k₂.new.out in
    let at = k₁.result + k₂.result in
    let out₃ = put_mid at (length out₂ - at) out₂ k₃.new.out in
    let kept₂ : length out₂ ≡ length k₁.new.out = search rules in
    let kept₃ : length out₃ ≡ length out₂ = search rules in
    let room : at + k₃.result + length c.args.pending.now ≤ length out₃ = omega (arith, five, wrote, kept₂, kept₃, k₃.ensures.count, k₁.auto.out, c.requires) in
    simp (length-take, length-drop) (omega (arith, room))

pub returns : goal.returns
unfolding image_of
returns c =
    let a = c.args in
    let o = a.out.now in
    let card = card_bytes (world_of a.card [] []) in
    let k₁ = c.put_start-a in
    let k₂ = c.put_card in
    let k₃ = c.put_slice in
    let k₄ = c.put_slice-2 in
    let two = behind (mark ++ bytes_of 2 1) card o k₁.new.out k₂.new.out k₁.result k₂.result k₁.ensures k₂.ensures in
    let three = behind (mark ++ bytes_of 2 1 ++ card) a.table.now o _ k₃.new.out (k₁.result + k₂.result) k₃.result two k₃.ensures in
    rw (card_alone a.card a.table.now a.pending.now)
    (behind (mark ++ bytes_of 2 1 ++ card ++ a.table.now) a.pending.now o _ k₄.new.out (k₁.result + k₂.result + k₃.result) k₄.result three k₄.ensures)
