-- What holds of every function with a given configuration and given MSI waiting bits, and what the soundness check says. Assumes nothing.
use Rattle.std.specs.Prelude.{◌≡◌, Bool, true, false, List, ℕ, Result, Ok, Err, MatchResult}
use Rattle.model.specs.declared.Function.{Function}
use Rattle.model.specs.declared.Profile.{Profile}
use Rattle.model.specs.declared.Shape.{Shape}
use Rattle.model.specs.Shape.{shape_of}
use Rattle.model.specs.World.{function_of, endpoint_of}
use Rattle.model.specs.Sound.{sound_endpoint}
use Rattle.vectors.specs.Given.{Profiled}

abbrev pub each_of : (config : List ℕ) (waiting : ℕ) → (Function → Type 0) → Type 0
each_of config waiting P = (sizes : List ℕ) (events requester : ℕ) (line : Bool) → P (function_of config sizes events requester line waiting)

-- of a sound function its profile, of any other its shape
abbrev pub profile_or_shape : Bool → Profile → Result Profile Shape
profile_or_shape true k = Ok k
profile_or_shape false k = Err k.shape

-- of a function f with its buffers t and p: a profile is told exactly of a sound one, of any other its shape
abbrev pub Checked : (f : Function) (t p : List ℕ) → Result Profile Shape → Type 0
Checked f t p r =
    MatchResult r
    (λ k. (sound_endpoint (shape_of f.config) (endpoint_of f t p) ≡ true) × (k.shape ≡ shape_of f.config) × Profiled f.config k)
    (λ s. (sound_endpoint (shape_of f.config) (endpoint_of f t p) ≡ false) × (s ≡ shape_of f.config))
