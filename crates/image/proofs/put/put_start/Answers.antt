-- The version behind the mark. Assumes nothing.
use Rattle.words.specs.Bytes.{bytes_of}
use Rattle.words.proofs.Writers.{behind}
use Rattle.model.specs.Image.{mark}
use Rattle.image.proofs.put.put_start.Goals as goal

pub returns : goal.returns
unfolding mark
returns c =
    let k₁ = c.put_slice-at in
    let k₂ = c.put_le in
    behind mark (bytes_of 2 1) _ k₁.new.out k₂.new.out k₁.result k₂.result k₁.ensures k₂.ensures
