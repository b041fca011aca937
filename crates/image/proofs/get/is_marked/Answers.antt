-- The library compares the mark with the first bytes. Assumes nothing.
use Rattle.std.proofs.Common.{◌∙◌, take}
use Rattle.words.proofs.ListLaws.{same-bytes_eq}
use Rattle.model.specs.Image.{mark}
use Rattle.image.proofs.MarkLaws.{same-swap}
use Rattle.image.proofs.get.is_marked.Goals as goal

pub returns : goal.returns
unfolding mark
returns c = c.starts_with.ensures.value ∙ same-bytes_eq _ _ ∙ same-swap mark (take 3 c.args.image.now)
