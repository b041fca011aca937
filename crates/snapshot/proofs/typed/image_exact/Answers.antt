-- By the theorems, of an image of bytes. Assumes nothing.
use Rattle.model.proofs.ImageExact.{image-exact}
use Rattle.model.proofs.ImageRefused.{image_refused}
use Rattle.snapshot.proofs.typed.image_exact.Goals as goal

pub returns : goal.returns
returns c =
    let bytes = c.lent_bytes.ensures.1 in
    (c.lent_bytes.ensures.0, λ w. (image-exact w _ bytes, image_refused w _ bytes))
