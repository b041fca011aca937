-- Document 01, "What demand 3 compares": a vector is an MSI-X one below N or an MSI one below 32. Those are all that demand 3 has to speak of:
-- whatever an event of a sound card means is one of them, and nothing else waits. Assumes nothing.
use mathlib.Core.Path.{◌≡◌, refl, sym, ◌∙◌}
use mathlib.Core.Bool.{true, true≢false, false≢true}
use mathlib.Core.Logic.{◌↔◌, ◌⊎◌, inl, inr}
use mathlib.Core.Option.{Option, none, some, some-ne-none}
use Prim.Native.Nat.{ℕ, ◌<◌}
use native.Mathlib.Omega.{arith}
use lib.Dec.{ltb}
use borrow.Author.Tests.{ltb-true, ltb-false, lt-ltb}
use Rattle.words.proofs.BoolLaws.{by_test}
use Rattle.words.proofs.BitLaws.{bit_above}
use Rattle.model.specs.declared.Mode.{Mode}
use Rattle.model.specs.declared.Mode.TheVariants.{Pin, Msi, Msix}
use Rattle.model.specs.declared.Shape.{Shape}
use Rattle.model.specs.Shape.{shape_of, msi_vectors}
use Rattle.model.specs.World.{World, Endpoint, Registers, registers}
use Rattle.model.specs.Vectors.{mode_of, vector_of, vector_count, waits}
use Rattle.model.specs.Start.{Given}
use Rattle.model.specs.Sound.{sound, shape, given_of}
use Rattle.model.specs.History.{is_vector}
use Rattle.model.proofs.Sound.SoundLaws.{Accepts, accepts, SoundEndpoint, is-sound}
use Rattle.model.proofs.Sound.StartLaws.{few-msi}
use Rattle.model.proofs.Vectors.SettleLaws.{below}
use Rattle.model.proofs.Vectors.EventLaws.{vector_counted}

-- ---- which numbers are vectors

pub msi_vector : (s : Shape) (v : ℕ) → (is_vector s Msi v ≡ true) ↔ (v < 32)
unfolding is_vector
msi_vector s v = (ltb-true v 32, lt-ltb v 32)

pub msix_vector : (s : Shape) (v : ℕ) → (is_vector s Msix v ≡ true) ↔ (v < s.msix.vectors)
unfolding is_vector
msix_vector s v = (ltb-true v s.msix.vectors, lt-ltb v s.msix.vectors)

-- ---- of a sound card

-- a card's own vectors, below N or 2^Capable, are vectors
counted : (m : Mode) (g : Given) → Accepts g → (v : ℕ) → v < vector_count m (shape_of g.config) → is_vector (shape_of g.config) m v ≡ true
unfolding vector_count is_vector
counted Pin g k v h = absurd (omega arith)
counted Msi g k v h = lt-ltb v 32 (omega (arith, few-msi g k))
counted Msix g k v h = lt-ltb v (shape_of g.config).msix.vectors h

-- none is meant under the pin alone
none-pin : (m : Mode) (s : Shape) (r : Registers) (e : ℕ) → vector_of m s r e ≡ none → m ≡ Pin
unfolding vector_of
none-pin Pin s r e n = refl
none-pin Msi s r e n = absurd (some-ne-none _ n)
none-pin Msix s r e n = absurd (some-ne-none e n)

-- an event that the card has means none, with the pin in force, or a vector: one of the 32 of MSI or one of the N of MSI-X
pub event-vector : (w : World) → sound w ≡ true → (m : Mode) → mode_of (shape w.endpoint) (registers w.endpoint) ≡ m
    → (e : ℕ) → e < w.endpoint.function.events
    → let meant : Option ℕ = vector_of m (shape w.endpoint) (registers w.endpoint) e in
    ((m ≡ Pin) × (meant ≡ none)) ⊎ ((v : ℕ) × (meant ≡ some v) × (is_vector (shape w.endpoint) m v ≡ true))
event-vector w s m q e h = go (vector_of m (shape u) (registers u) e) refl
  where
    u : Endpoint
    u = w.endpoint

    k : SoundEndpoint u
    k = (is-sound w s).endpoint

    meant : Option ℕ
    meant = vector_of m (shape u) (registers u) e

    go : (x : Option ℕ) → meant ≡ x → ((m ≡ Pin) × (meant ≡ none)) ⊎ ((v : ℕ) × (meant ≡ some v) × (is_vector (shape u) m v ≡ true))
    go none n = inl (none-pin m (shape u) (registers u) e n, n)
    go (some v) n = inr (v, n, counted m (given_of u) (accepts (given_of u) k.start) v (vector_counted m u e v k h q n))

waits-counted : (m : Mode) (u : Endpoint) → SoundEndpoint u → (v : ℕ) → waits m u v ≡ true → v < vector_count m (shape u)
unfolding waits vector_count
waits-counted Pin u k v e = absurd (false≢true e)
waits-counted Msi u k v e =
    by_test (ltb v (msi_vectors (shape u))) (ltb-true v (msi_vectors (shape u)))
    (λ f. absurd (true≢false (sym e ∙ bit_above (msi_vectors (shape u)) u.function.waiting v (below (shape u) u k.below).msi (ltb-false v (msi_vectors (shape u)) f))))
waits-counted Msix u k v e =
    by_test (ltb v (shape u).msix.vectors) (ltb-true v (shape u).msix.vectors)
    (λ f. absurd (true≢false (sym e ∙ (below (shape u) u k.below).msix v (ltb-false v (shape u).msix.vectors f))))

-- what waits is a vector
pub waiting_vector : (w : World) → sound w ≡ true → (m : Mode) (v : ℕ) → waits m w.endpoint v ≡ true → is_vector (shape w.endpoint) m v ≡ true
waiting_vector w s m v e =
    let u : Endpoint = w.endpoint in
    let k : SoundEndpoint u = (is-sound w s).endpoint in
    counted m (given_of u) (accepts (given_of u) k.start) v (waits-counted m u k v e)
