-- Each way out of a save of a sound card. Assumes nothing.
use mathlib.Core.Path.{◌≡◌, sym, ap, ◌∙◌}
use mathlib.Core.List.{List}
use Prim.Native.Nat.{ℕ, ◌^◌, ◌≤◌, ◌<◌}
use native.Mathlib.Omega.{arith}
use lib.ListN.{length}
use Rattle.words.specs.Writers.{Wrote}
use Rattle.model.specs.declared.Answer.TheVariants.{Done}
use Rattle.model.specs.declared.Card.{Card}
use Rattle.model.specs.declared.Profile.{Profile}
use Rattle.model.specs.World.{world_of}
use Rattle.model.specs.Image.{image_of}
use Rattle.model.specs.Calls.{save, performed}
use Rattle.model.proofs.Calls.CallLaws.{room-short, room_fits}
use Rattle.model.proofs.Shapes.FitLaws.{table-room, pending-room}
use Rattle.model.proofs.Calls.SaveCalls.{save-room}
use Rattle.image.specs.declared.format.Image.{Image}
use Rattle.image.specs.Layout.{layout, image_size}
use Rattle.image.proofs.CardLaws.{image-size}
use Rattle.card.specs.declared.outcome.Outcome.{Outcome}
use Rattle.card.specs.Outcomes.{refused_with, accepted_with, after}
use Rattle.card.specs.Running.{Running}
use Rattle.card.proofs.SoundFor.{running_fit}

-- the layout i of its image
module _ (card : Card) (t p : List ℕ) (i : Image) (l : i ≡ layout (length t) (length p)) where
  pub size_fits : (k : Profile) → Running card t p k → image_size i.table i.pending < 2 ^ 64
  size_fits k r = let f = running_fit r in rw l (omega (arith, f.shape.few, table-room _ _ _ f, pending-room _ _ _ f))

  -- and its length n
  module _ (n : ℕ) (m : n ≡ image_size i.table i.pending) (out : List ℕ) where
    size_is : n ≡ image_size (length t) (length p)
    size_is = rw l at m

    pub output-fits : n ≤ length out → image_size (length t) (length p) ≤ length out
    output-fits h = omega (arith, size_is)

    module _ (z : length card.function.sizes ≡ 6) (c : length card.function.config ≡ 256) (r : Outcome) where
      pub save-short : length out < n → r ≡ refused_with card 6 → after r t p out ≡ performed (world_of card t p) (save out)
      save-short h q =
          ap (λ (x : Outcome). after x t p out) q
          ∙ sym (save-room (world_of card t p) out ∙ room-short _ (world_of card t p) Done (image_of (world_of card t p)) out (omega (arith, size_is, image-size card t p z c)))

      pub save-accepted : (k : ℕ) (out' : List ℕ) → n ≤ length out → Wrote (image_of (world_of card t p)) out k out' → r ≡ accepted_with card Done k
          → after r t p out' ≡ performed (world_of card t p) (save out)
      save-accepted k out' h w q =
          rw (q, w.count, w.bytes)
          (sym (save-room (world_of card t p) out ∙ room_fits (world_of card t p) _ Done (image_of (world_of card t p)) out (omega (arith, size_is, image-size card t p z c))))
