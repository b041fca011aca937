-- What a sweep leaves waiting, and how many bytes it sends. Assumes nothing.
use mathlib.Core.Path.{◌≡◌, refl, sym, ap, ◌∙◌}
use mathlib.Core.Bool.{Bool, true, false, not, cond, ◌&&◌, and-true, false≢true}
use Prim.Native.Nat.{ℕ, ◌^◌, ◌≤◌, ◌<◌, min}
use native.Mathlib.Nat.{min-le_right}
use native.Mathlib.Omega.{arith}
use lib.Dec.{ltb}
use lib.Pow.{pow_mono}
use borrow.Author.Tests.{ltb-true, lt-ltb, not-true}
use Rattle.words.specs.Lists.{member, count}
use Rattle.words.proofs.BoolLaws.{both, by_test}
use Rattle.words.proofs.ListLaws.{Holds, member-count, count-member, member-keep}
use Rattle.model.specs.declared.Mode.{Mode}
use Rattle.model.specs.declared.Mode.TheVariants.{Pin, Msi, Msix}
use Rattle.model.specs.declared.Shape.{Shape}
use Rattle.model.specs.Shape.{msi_present, msix_present, msi_vectors}
use Rattle.model.specs.World.{Endpoint, Registers, registers}
use Rattle.model.specs.Vectors.{waits, is_open, enabled, masked, granted, owed, vector_count, mode_of, same_mode, in_force, msi_control_bit, msix_control_bit, enable_field, command_bit}
use Rattle.model.specs.Release.{swept, owed_now, clear_all, swept_for}
use Rattle.model.proofs.Vectors.WaitingLaws.{InRange, OnlyWaiting, clear_only, waits-clear, clear_apart}

-- ---- the mechanism in force

pub in-force : (m n : Mode) → same_mode m n ≡ true → n ≡ m
unfolding same_mode
in-force Pin Pin e = refl
in-force Pin Msi e = absurd (false≢true e)
in-force Pin Msix e = absurd (false≢true e)
in-force Msi Pin e = absurd (false≢true e)
in-force Msi Msi e = refl
in-force Msi Msix e = absurd (false≢true e)
in-force Msix Pin e = absurd (false≢true e)
in-force Msix Msi e = absurd (false≢true e)
in-force Msix Msix e = refl

pub force_refl : (m : Mode) → same_mode m m ≡ true
unfolding same_mode
force_refl Pin = refl
force_refl Msi = refl
force_refl Msix = refl

-- MSI is present where it is in force
pub msi-present : (s : Shape) (r : Registers) → mode_of s r ≡ Msi → msi_present s ≡ true
unfolding mode_of
msi-present s r = go (msix_present s && msix_control_bit s r 15) (msi_present s) (msi_control_bit s r 0)
  where
    go : (x p b : Bool) → cond x Msix (cond (p && b) Msi Pin) ≡ Msi → p ≡ true
    go x true b e = refl
    go true false b e = absurd (let z : ◌≡◌ {A = ℕ} 0 1 = cc in omega arith)
    go false false b e = absurd (let z : ◌≡◌ {A = ℕ} 0 1 = cc in omega arith)

-- ---- an open vector is one of the card's

-- the parts of an open vector
pub record Open (m : Mode) (s : Shape) (r : Registers) (v : ℕ) : Type 0 where
  pub force : mode_of s r ≡ m
  pub enable : enabled m s r v ≡ true
  pub clear : masked m s r v ≡ false
  pub master : command_bit r 2 ≡ true

pub open_parts : (m : Mode) (s : Shape) (r : Registers) (v : ℕ) → is_open m s r v ≡ true → Open m s r v
unfolding is_open in_force
open_parts m s r v h =
    let a = both (same_mode m (mode_of s r) && enabled m s r v && not (masked m s r v)) (command_bit r 2) h in
    let b = both (same_mode m (mode_of s r) && enabled m s r v) (not (masked m s r v)) a.0 in
    let c = both (same_mode m (mode_of s r)) (enabled m s r v) b.0 in
    record { force = in-force m (mode_of s r) c.0; enable = c.1; clear = not-true (masked m s r v) b.1; master = a.1 }

enabled-counted : (m : Mode) (s : Shape) (r : Registers) (v : ℕ) → mode_of s r ≡ m → enabled m s r v ≡ true → v < vector_count m s
unfolding enabled vector_count granted msi_vectors
enabled-counted Pin s r v e h = absurd (false≢true h)
enabled-counted Msi s r v e h =
    let lt : v < granted s r = ltb-true v (granted s r) h in
    let le : 2 ^ min (enable_field s r) s.msi.capable ≤ 2 ^ s.msi.capable = pow_mono (min-le_right (enable_field s r) s.msi.capable) in
    rw (msi-present s r e) (omega arith)
enabled-counted Msix s r v e h = ltb-true v s.msix.vectors (both (ltb v s.msix.vectors) (not (msix_control_bit s r 14)) h).0

-- while another mechanism is in force a vector is shut
pub other_shut : (m : Mode) (s : Shape) (r : Registers) (v : ℕ) → same_mode m (mode_of s r) ≡ false → is_open m s r v ≡ false
unfolding is_open in_force
other_shut m s r v h = rw h

pub open_counted : (m : Mode) (s : Shape) (r : Registers) (v : ℕ) → is_open m s r v ≡ true → v < vector_count m s
open_counted m s r v h = let o = open_parts m s r v h in enabled-counted m s r v o.force o.enable

-- ---- the sweep

-- each vector of the card has a waiting bit
abbrev pub Buffered : Shape → Endpoint → Type 0
Buffered s u = (m : Mode) (v : ℕ) → v < vector_count m s → InRange m u v

pub swept_only : (s : Shape) (u : Endpoint) → OnlyWaiting u (swept s u)
unfolding swept swept_for owed_now
swept_only s u = clear_only (mode_of s (registers u)) u (owed_now s u)

-- a vector is owed exactly if it is open and waits
pub owed-member : (m : Mode) (s : Shape) (u : Endpoint) (v : ℕ) → v < vector_count m s → member v (owed m s u) ≡ (is_open m s (registers u) v && waits m u v)
unfolding owed
owed-member m s u v h =
    let f : ℕ → Bool = λ v. is_open m s (registers u) v && waits m u v in
    member-keep f (count 0 (vector_count m s)) v ∙ ap (λ (b : Bool). f v && b) (count-member 0 (vector_count m s) v (omega arith) (omega arith)) ∙ and-true (f v)

pub owed-below : (m : Mode) (s : Shape) (u : Endpoint) → Holds (λ v. v < vector_count m s) (owed m s u)
unfolding owed
owed-below m s u v k =
    let f : ℕ → Bool = λ v. is_open m s (registers u) v && waits m u v in
    let p = member-count 0 (vector_count m s) v (both (f v) (member v (count 0 (vector_count m s))) (sym (member-keep f (count 0 (vector_count m s)) v) ∙ k)).1 in
    omega arith

leave : (o w : Bool) → (w && not (o && w)) ≡ (w && not o)
leave true true = refl
leave true false = refl
leave false true = refl
leave false false = refl

-- the swept vectors, of one mechanism
swept_here : (m : Mode) (s : Shape) (u : Endpoint) (v : ℕ) → Buffered s u
    → waits m (clear_all m u (owed m s u)) v ≡ (waits m u v && not (is_open m s (registers u) v))
swept_here m s u v buffered =
    waits-clear m u (owed m s u) v (λ x k. buffered m x (owed-below m s u x k))
    ∙ by_test (ltb v (vector_count m s))
    (λ e. ap (λ (b : Bool). waits m u v && not b) (owed-member m s u v (ltb-true v (vector_count m s) e)) ∙ leave (is_open m s (registers u) v) (waits m u v))
    (λ e. ap (λ (b : Bool). waits m u v && not b) (none e ∙ sym (shut e)))
  where
    outside : ltb v (vector_count m s) ≡ false → v < vector_count m s → ⊥
    outside e h = absurd (false≢true (sym e ∙ lt-ltb v (vector_count m s) h))

    none : ltb v (vector_count m s) ≡ false → member v (owed m s u) ≡ false
    none e = by_test (member v (owed m s u)) (λ k. absurd (outside e (owed-below m s u v k))) (λ k. k)

    shut : ltb v (vector_count m s) ≡ false → is_open m s (registers u) v ≡ false
    shut e = by_test (is_open m s (registers u) v) (λ k. absurd (outside e (open_counted m s (registers u) v k))) (λ k. k)

-- after a sweep a vector of either mechanism waits exactly if it did and is shut
pub swept-waits : (m : Mode) (s : Shape) (u : Endpoint) (v : ℕ) → Buffered s u
    → waits m (swept s u) v ≡ (waits m u v && not (is_open m s (registers u) v))
unfolding swept swept_for owed_now
swept-waits m s u v buffered = go (mode_of s (registers u)) refl
  where
    shut : (n : Mode) → mode_of s (registers u) ≡ n → same_mode m n ≡ false → is_open m s (registers u) v ≡ false
    shut n e f =
        by_test (is_open m s (registers u) v)
        (λ k. absurd (false≢true (sym f ∙ ap (same_mode m) (sym e ∙ (open_parts m s (registers u) v k).force) ∙ force_refl m))) (λ k. k)

    stays : (n : Mode) → mode_of s (registers u) ≡ n → same_mode m n ≡ false → waits m (clear_all n u (owed n s u)) v ≡ waits m u v
        → waits m (clear_all n u (owed n s u)) v ≡ (waits m u v && not (is_open m s (registers u) v))
    stays n e f g = g ∙ sym (ap (λ (b : Bool). waits m u v && not b) (shut n e f) ∙ and-true (waits m u v))

    go : (n : Mode) → mode_of s (registers u) ≡ n → waits m (clear_all n u (owed n s u)) v ≡ (waits m u v && not (is_open m s (registers u) v))
    go n e =
        by_test (same_mode m n)
        (λ f. let q : n ≡ m = in-force m n f in rw q (swept_here m s u v buffered))
        (λ f. stays n e f (clear_apart n m u (owed n s u) v f))
