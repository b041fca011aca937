-- Soundness is kept: a started card is sound, and every call and every restore leave a sound card. Assumes nothing.
use mathlib.Core.Path.{◌≡◌, refl}
use mathlib.Core.Bool.{Bool, true, false≢true}
use mathlib.Core.List.{List}
use Prim.Native.Nat.{ℕ}
use Rattle.words.proofs.BoolLaws.{both, passed}
use borrow.Author.Tests.{not-false}
use Rattle.model.specs.Answers.{is_accepted}
use Rattle.model.specs.World.{World, Endpoint}
use Rattle.model.specs.Start.{Given, start_refusal}
use Rattle.model.specs.Sound.{given_of, shape, sound}
use Rattle.model.specs.Image.{is_saved, world_in, restore_refusal}
use Rattle.model.specs.Calls.{Call, Outcome, step, start_of, restore_of}
use Rattle.model.proofs.Sound.SoundLaws.{is-sound, sound_is}
use Rattle.model.proofs.Sound.StartLaws.{started-sound}
use Rattle.model.proofs.Vectors.SettleLaws.{settled-sound}
use Rattle.model.proofs.Vectors.EventLaws.{event_quiet}
use Rattle.model.proofs.Vectors.WithdrawLaws.{withdrawn-sound}
use Rattle.model.proofs.Calls.CallLaws.{answered_elim, step_elim}
use Rattle.model.proofs.Calls.Effects.{Effect, reads, saves, settles, raises, withdraws, restarts, effect}

pub effect_sound : (w : World) → sound w ≡ true → {b : Bool} {v : World} {bytes : List ℕ} → Effect w b v bytes → sound v ≡ true
effect_sound w k reads = k
effect_sound w k saves = k
effect_sound w k (settles u h) = sound_is _ (settled-sound (shape w.endpoint) u h.ready)
effect_sound w k (raises e h) = sound_is _ (settled-sound (shape w.endpoint) _ (event_quiet w.endpoint (is-sound w k).endpoint e h).ready)
effect_sound w k (withdraws v h) = withdrawn-sound w k v h
effect_sound w k restarts = started-sound (given_of w.endpoint) (is-sound w k).endpoint.start

-- ---- the theorem

-- every call of a running card leaves a sound card sound
pub sound-kept : (w : World) (c : Call) → sound w ≡ true → sound (step w c).world ≡ true
sound-kept w c k = step_elim w c (λ (r : Outcome). sound r.world ≡ true) (λ p. effect_sound w k (effect w c p)) (λ _ _. k)

-- an accepted start gives a sound card
pub start-sound : (u : Endpoint) (g : Given) → is_accepted (start_of u g).answer ≡ true → sound (start_of u g).world ≡ true
unfolding start_of is_accepted
start-sound u g =
    answered_elim (start_refusal g) _ _ (λ (r : Outcome). is_accepted r.answer ≡ true → sound r.world ≡ true)
    (λ e _. started-sound g e) (λ _ e. absurd (false≢true e))

-- and so does an accepted restore
pub restore-sound : (w : World) (image : List ℕ) → is_accepted (restore_of w image).answer ≡ true → sound (restore_of w image).world ≡ true
unfolding restore_of is_accepted restore_refusal is_saved
restore-sound w image =
    answered_elim _ _ _ (λ (r : Outcome). is_accepted r.answer ≡ true → sound r.world ≡ true)
    (λ e _. (both (sound (world_in image)) _ (not-false (is_saved image) (passed 22 _ refl (passed 21 _ refl (passed 20 _ refl e).1).1).0)).0)
    (λ _ e. absurd (false≢true e))
