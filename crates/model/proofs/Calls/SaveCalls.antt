-- A save of a sound card: 6, or its image. Assumes nothing.
use mathlib.Core.Path.{◌≡◌, refl}
use mathlib.Core.List.{List}
use Prim.Native.Nat.{ℕ}
use Rattle.words.specs.Lists.{first_of}
use Rattle.model.specs.declared.Answer.TheVariants.{Done}
use Rattle.model.specs.World.{World}
use Rattle.model.specs.Image.{image_of}
use Rattle.model.specs.Calls.{save, rows, next, sends, answer_of, if_room, performed}
use Rattle.model.proofs.Calls.CallLaws.{performed-room}

pub save-room : (w : World) (out : List ℕ) → performed w (save out) ≡ if_room w w Done (image_of w) out
unfolding rows first_of next sends answer_of
save-room w out = performed-room w (save out) refl
