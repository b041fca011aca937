-- What soundness gives of the vectors: each has a waiting bit, an event means one of them, and no open one waits. Assumes nothing.
use mathlib.Core.Path.{◌≡◌}
use mathlib.Core.Bool.{false, ◌&&◌}
use mathlib.Core.Option.{some}
use Prim.Native.Nat.{ℕ, ◌*◌, ◌<◌}
use native.Mathlib.Omega.{arith}
use lib.ListN.{length}
use Rattle.words.proofs.BoolLaws.{by_test}
use Rattle.model.specs.declared.Mode.{Mode}
use Rattle.model.specs.declared.Mode.TheVariants.{Pin, Msi, Msix}
use Rattle.model.specs.declared.Shape.{Shape}
use Rattle.model.specs.World.{Endpoint, registers}
use Rattle.model.specs.Vectors.{mode_of, is_open, waits, vector_of}
use Rattle.model.specs.Sound.{shape}
use Rattle.model.proofs.Vectors.WaitingLaws.{InRange}
use Rattle.model.proofs.Vectors.SweepLaws.{Buffered, open_parts, open_counted}
use Rattle.model.proofs.Sound.SoundLaws.{SoundEndpoint}
use Rattle.model.proofs.Vectors.SettleLaws.{buffered}
use Rattle.model.proofs.Vectors.EventLaws.{vector_counted, open_idle}

-- a pending array of the same length has as many waiting bits
pub buffered_same : (s : Shape) (u u' : Endpoint) → length u'.pending ≡ length u.pending → Buffered s u → Buffered s u'
buffered_same s u u' n b Pin v h = b Pin v h
buffered_same s u u' n b Msi v h = tt
buffered_same s u u' n b Msix v h = let r : v < 8 * length u.pending = b Msix v h in omega arith

pub event_range : (u : Endpoint) (e : ℕ) → SoundEndpoint u → e < u.function.events
    → (n : Mode) (v : ℕ) → mode_of (shape u) (registers u) ≡ n → vector_of n (shape u) (registers u) e ≡ some v → InRange n u v
event_range u e k h n v q m = buffered u k.start n v (vector_counted n u e v k h q m)

pub none-owed : (m : Mode) (u : Endpoint) (v : ℕ) → SoundEndpoint u → (is_open m (shape u) (registers u) v && waits m u v) ≡ false
none-owed m u v k =
    by_test (is_open m (shape u) (registers u) v)
    (λ o. open_idle m u v k (open_parts m (shape u) (registers u) v o).force (open_counted m (shape u) (registers u) v o)) (λ o. rw o)
