-- What an event leaves waiting. Assumes nothing.
use mathlib.Core.Path.{◌≡◌, refl, sym, ap, ◌∙◌}
use mathlib.Core.Bool.{Bool, true, false, not, ◌&&◌, ◌||◌, or-false, or-true}
use mathlib.Core.Option.{Option, none, some}
use Prim.Native.Nat.{ℕ}
use lib.Dec.{eqb}
use borrow.Author.Tests.{eq-eqb, ne_eqb, eqb-true, eqb-false}
use Rattle.words.specs.Bits.{set_bit}
use Rattle.words.proofs.BoolLaws.{cond_elim, by_test}
use Rattle.model.specs.declared.Mode.{Mode}
use Rattle.model.specs.declared.Mode.TheVariants.{Pin, Msi, Msix}
use Rattle.model.specs.declared.Shape.{Shape}
use Rattle.model.specs.World.{Endpoint, Registers, registers}
use Rattle.model.specs.Vectors.{mode_of, same_mode, in_force, is_open, waits, vector_of, means}
use Rattle.model.specs.Release.{Raised, raise_vector, raise, raised_by}
use Rattle.model.proofs.Vectors.WaitingLaws.{InRange, OnlyWaiting, only_refl, change_only, waits-set, waits-apart}
use Rattle.model.proofs.Vectors.SweepLaws.{in-force}

-- ---- for a vector of the mechanism n

vector_only : (n : Mode) (s : Shape) (u : Endpoint) (x : ℕ) → OnlyWaiting u (raise_vector n s u x).endpoint
unfolding raise_vector
vector_only n s u x =
    cond_elim (λ (r : Raised). OnlyWaiting u r.endpoint) (is_open n s (registers u) x) (λ _. only_refl u)
    (λ _.
    cond_elim (λ (r : Raised). OnlyWaiting u r.endpoint) (waits n u x) (λ _. only_refl u) (λ _. change_only set_bit n u x))

pub eqb_swap : (x v : ℕ) → eqb v x ≡ eqb x v
eqb_swap x v =
    by_test (eqb x v) (λ e. eq-eqb v x (sym (eqb-true x v e)) ∙ sym e) (λ e. ne_eqb v x (λ q. eqb-false x v e (sym q)) ∙ sym e)

-- a vector of the same mechanism: it waits if it did, or was meant and shut
vector_waits : (n : Mode) (s : Shape) (u : Endpoint) (x v : ℕ) → InRange n u x
    → waits n (raise_vector n s u x).endpoint v ≡ (waits n u v || (eqb x v && not (is_open n s (registers u) v)))
unfolding raise_vector
vector_waits n s u x v h =
    cond_elim P (is_open n s (registers u) x)
    (λ o. none (waits n u v) (λ e. ap (is_open n s (registers u)) (sym e) ∙ o))
    (λ o. cond_elim P (waits n u x) (λ w. kept (is_open n s (registers u) v) (λ e. ap (waits n u) (sym e) ∙ w))
    (λ w. waits-set n u x v h ∙ added (λ e. ap (is_open n s (registers u)) (sym e) ∙ o)))
  where
    P : Raised → Type 0
    P r = waits n r.endpoint v ≡ (waits n u v || (eqb x v && not (is_open n s (registers u) v)))

    none : (b : Bool) → (x ≡ v → is_open n s (registers u) v ≡ true) → b ≡ (b || (eqb x v && not (is_open n s (registers u) v)))
    none true f = refl
    none false f = by_test (eqb x v) (λ e. sym (rw (e, f (eqb-true x v e)))) (λ e. sym (rw e))

    kept : (o : Bool) → (x ≡ v → waits n u v ≡ true) → waits n u v ≡ (waits n u v || (eqb x v && not o))
    kept o f = by_test (eqb x v) (λ e. rw (f (eqb-true x v e))) (λ e. rw (e, or-false))

    added : (x ≡ v → is_open n s (registers u) v ≡ false) → (eqb v x || waits n u v) ≡ (waits n u v || (eqb x v && not (is_open n s (registers u) v)))
    added f = rw (eqb_swap x v) (by_test (eqb x v) (λ e. rw (e, f (eqb-true x v e), or-true)) (λ e. rw (e, or-false)))

-- a vector of another mechanism stays as it is
vector_apart : (m n : Mode) (s : Shape) (u : Endpoint) (x v : ℕ) → same_mode m n ≡ false → waits m (raise_vector n s u x).endpoint v ≡ waits m u v
unfolding raise_vector
vector_apart m n s u x v a =
    cond_elim P (is_open n s (registers u) x) (λ _. refl) (λ _. cond_elim P (waits n u x) (λ _. refl) (λ _. waits-apart set_bit n m u x v a))
  where
    P : Raised → Type 0
    P r = waits m r.endpoint v ≡ waits m u v

-- ---- by the mechanism in force

pub raised_only : (s : Shape) (u : Endpoint) (e : ℕ) → OnlyWaiting u (raised_by s u e).endpoint
unfolding raised_by raise
raised_only s u e = go (mode_of s (registers u)) (vector_of (mode_of s (registers u)) s (registers u) e)
  where
    go : (n : Mode) (x : Option ℕ) → OnlyWaiting u (raise n s u x).endpoint
    go n none = only_refl u
    go n (some x) = vector_only n s u x

-- an event that means x means no other vector
means-one : (m : Mode) (s : Shape) (r : Registers) (e x v : ℕ) → vector_of m s r e ≡ some x → means m s r e v ≡ eqb x v
unfolding means
means-one m s r e x v k = rw k

-- after event e a vector waits if it did, or was meant by e and shut
pub raised_waits : (m : Mode) (s : Shape) (u : Endpoint) (e v : ℕ)
    → ((n : Mode) (x : ℕ) → mode_of s (registers u) ≡ n → vector_of n s (registers u) e ≡ some x → InRange n u x)
    → waits m (raised_by s u e).endpoint v
    ≡ (waits m u v || (in_force m s (registers u) && means m s (registers u) e v && not (is_open m s (registers u) v)))
unfolding raised_by raise vector_of in_force same_mode means
raised_waits m s u e v h = go (mode_of s (registers u)) refl
  where
    r : Registers
    r = registers u

    Q : Mode → Type 0
    Q n = waits m (raise n s u (vector_of n s r e)).endpoint v ≡ (waits m u v || (same_mode m n && means m s r e v && not (is_open m s r v)))

    -- under the pin no event means a vector
    silent : (m : Mode) → (same_mode m Pin && means m s r e v && not (is_open m s r v)) ≡ false
    silent Pin = refl
    silent Msi = refl
    silent Msix = refl

    -- the event means vector x of the mechanism n
    vector : (n : Mode) (x : ℕ) → mode_of s r ≡ n → vector_of n s r e ≡ some x
        → waits m (raise_vector n s u x).endpoint v ≡ (waits m u v || (same_mode m n && means m s r e v && not (is_open m s r v)))
    vector n x q k =
        by_test (same_mode m n)
        (λ f. let j : n ≡ m = in-force m n f in rw (f, ← j, means-one n s r e x v k) (vector_waits n s u x v (h n x q k)))
        (λ f. rw (f, or-false) (vector_apart m n s u x v f))

    go : (n : Mode) → mode_of s r ≡ n → Q n
    go Pin q = rw (silent m, or-false)
    go Msi q = vector Msi _ q refl
    go Msix q = vector Msix _ q refl
