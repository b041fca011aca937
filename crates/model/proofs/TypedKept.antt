-- The declared types are kept: whatever is called, the card stays one that its types can hold. Assumes nothing.
use mathlib.Core.Path.{◌≡◌, refl, sym, ap, ◌∙◌, subst}
use mathlib.Core.Bool.{true}
use mathlib.Core.List.{List}
use Prim.Native.Nat.{ℕ, ◌^◌, ◌≤◌}
use native.Mathlib.Omega.{arith}
use lib.ListN.{length}
use lib.Pow.{pow_mono}
use Rattle.words.specs.Bytes.{Below}
use Rattle.words.proofs.BytesLaws.{bytes-replicate, below-replicate}
use Rattle.model.specs.declared.Shape.{Shape}
use Rattle.model.specs.Shape.{shape_of, msi_vectors}
use Rattle.model.specs.Registers.{started_config}
use Rattle.model.specs.World.{World, Endpoint}
use Rattle.model.specs.Start.{Given, start_refusal}
use Rattle.model.specs.Sound.{sound, shape, given_of}
use Rattle.model.specs.Claims.{Arrays, Typed, TypedArguments, of_call, of_start, of_restore}
use Rattle.model.specs.Calls.{Call, Outcome, Operation, start_given, started_world, zero_world, next, step, start_of, restore_of, operate}
use Rattle.model.proofs.Registers.FixedLaws.{length-started}
use Rattle.model.proofs.Sound.SoundLaws.{Accepts, accepts, SoundEndpoint, is-sound, events_fit, requester-fits}
use Rattle.model.proofs.Sound.StartLaws.{few-msi, started-sound}
use Rattle.model.proofs.Vectors.SettleLaws.{below}
use Rattle.model.proofs.Calls.CallLaws.{answered_elim, step_elim}
use Rattle.model.proofs.Calls.Effects.{effect}
use Rattle.model.proofs.Calls.SizeLaws.{Alike, alike_effect, started-bytes}
use Rattle.model.proofs.SoundKept.{effect_sound}
use Rattle.model.proofs.ImageExact.{restored_typed}

abbrev ArraysOf : Endpoint → Type 0
ArraysOf u = Arrays u.function.config u.function.sizes

-- ---- the numbers of a sound card fit

pub sound-typed : (w : World) → sound w ≡ true → ArraysOf w.endpoint → Typed w
sound-typed w s a =
    let u : Endpoint = w.endpoint in
    let k : SoundEndpoint u = (is-sound w s).endpoint in
    let ok : Accepts (given_of u) = accepts (given_of u) k.start in
    let few : 2 ^ msi_vectors (shape u) ≤ 2 ^ 32 = pow_mono (few-msi (given_of u) ok) in
    record {
      arrays = a;
      events = omega (arith, (events_fit u.function.events (shape u) ok.events).1);
      requester = omega (arith, requester-fits u.function.requester ok.requester);
      waiting = omega (arith, (below (shape u) u k.below).msi);
    }

-- ---- the arrays after a call

arrays_alike : {u u' : Endpoint} → Alike u u' → ArraysOf u → ArraysOf u'
arrays_alike k a = record {
  config = k.config ∙ a.config;
  bytes = k.bytes a.bytes;
  sizes = ap length k.sizes ∙ a.sizes;
  small = subst (Below (256 ^ 4)) (sym k.sizes) a.small;
}

-- ---- the theorem

arrays-started : (s : Shape) {config sizes : List ℕ} → Arrays config sizes → Arrays (started_config s config) sizes
arrays-started s {config} a =
    record { config = length-started s config ∙ a.config; bytes = started-bytes s config a.bytes; sizes = a.sizes; small = a.small }

-- an accepted start
pub started-typed : (g : Given) → start_refusal g ≡ 0 → Arrays g.config g.sizes → Typed (started_world g)
started-typed g e a = sound-typed (started_world g) (started-sound g e) (arrays-started (shape_of g.config) a)

-- a call of a running card
pub typed-step : (w : World) → Typed w → (c : Call) → Typed (step w c).world
typed-step w t c =
    step_elim w c (λ (r : Outcome). Typed r.world)
    (λ p. let x = effect w c p in sound-typed (next w c) (effect_sound w p.is_sound x) (arrays_alike (alike_effect w x) t.arrays)) (λ _ _. t)

zero-typed : (u : Endpoint) → Typed (zero_world u)
zero-typed u = record {
  arrays = record { config = refl; bytes = bytes-replicate 256 0 (omega arith); sizes = refl; small = below-replicate 6 0 (omega arith) };
  events = omega arith;
  requester = omega arith;
  waiting = omega arith;
}

-- every call with arguments of their types, starts and restores among them
pub typed-kept : (w : World) → Typed w → (o : Operation) → TypedArguments o → Typed (operate w o).world
unfolding start_of restore_of
typed-kept w t _ (of_call c) = typed-step w t c
typed-kept w t _ (of_start {config} {sizes} events requester a) =
    let g : Given = start_given w.endpoint config sizes events requester in
    answered_elim _ _ _ (λ (r : Outcome). Typed r.world)
    (λ e. started-typed g e a) (λ _. zero-typed w.endpoint)
typed-kept w t _ (of_restore {image} b) = answered_elim _ _ _ (λ (r : Outcome). Typed r.world) (restored_typed image _ _ b) (λ _. t)
