-- A start: refused, or accepted. Assumes nothing.
use mathlib.Core.Path.{◌≡◌, refl, ap, ◌∙◌}
use mathlib.Core.Bool.{false}
use mathlib.Core.List.{List, []}
use Prim.Native.Nat.{ℕ}
use lib.Dec.{eqb}
use Rattle.model.specs.declared.Answer.TheVariants.{Done}
use Rattle.model.specs.declared.Function.{Function}
use Rattle.model.specs.World.{Endpoint, endpoint_of}
use Rattle.model.specs.Start.{Given, start_refusal}
use Rattle.model.specs.Calls.{refused, accepted, start_of, started_world, zero_world}
use Rattle.model.proofs.Calls.CallLaws.{answered_yes, answered_no}

pub start-refused : (u : Endpoint) (g : Given) (n : ℕ) → start_refusal g ≡ n → eqb n 0 ≡ false → start_of u g ≡ refused (zero_world u) n []
unfolding start_of
start-refused u g n e z =
    answered_no (start_refusal g) _ _ (ap (λ (k : ℕ). eqb k 0) e ∙ z) ∙ ap (λ (k : ℕ). refused (zero_world u) k []) e

pub start-accepted : (u : Endpoint) (g : Given) → start_refusal g ≡ 0 → start_of u g ≡ accepted (started_world g) Done [] []
unfolding start_of
start-accepted u g e = answered_yes (start_refusal g) _ _ e

-- of the function that it is given, a start has only the buffers
pub start_buffers : (f g : Function) (t p : List ℕ) (s : Given) → start_of (endpoint_of f t p) s ≡ start_of (endpoint_of g t p) s
unfolding start_of
start_buffers f g t p s = refl
