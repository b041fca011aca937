-- An event on a sound card: which vector it means, and that nothing is owed after it. Assumes nothing.
use mathlib.Core.Path.{◌≡◌, refl, sym, ap, ap₂, ◌∙◌}
use mathlib.Core.Bool.{Bool, true, false, cond, ◌&&◌, ◌||◌, and-false}
use mathlib.Core.List.{List, [], ◌++◌}
use mathlib.Core.Option.{Option, none, some, none-ne-some, some-injective}
use Prim.Native.Nat.{ℕ, ◌^◌, ◌≤◌, ◌<◌, min}
use native.Mathlib.Nat.{mod-lt, min-le_right}
use native.Mathlib.Omega.{arith}
use lib.Bits.{or_lt}
use lib.Dec.{eqb}
use lib.Pow.{pow_pos, pow-lt, pow_mono}
use borrow.Author.Tests.{eqb-true, ne_eqb}
use Rattle.words.specs.Lists.{keep, count, join}
use Rattle.words.specs.Bits.{set_bit}
use Rattle.words.proofs.BoolLaws.{by_test, cond_elim, beq_refl}
use Rattle.words.proofs.ListLaws.{keep-none, keep-nil, member-count, count-member}
use Rattle.model.specs.declared.Mode.{Mode}
use Rattle.model.specs.declared.Mode.TheVariants.{Pin, Msi, Msix}
use Rattle.model.specs.declared.Shape.{Shape}
use Rattle.model.specs.Shape.{msi_present, msix_present, msi_vectors}
use Rattle.model.specs.World.{World, Endpoint, Registers, registers}
use Rattle.model.specs.Vectors.{waits, is_open, change_waiting, owed, vector_count, vector_of, granted, mode_of, enable_field, msix_control_bit, msi_control_bit, pending_bit}
use Rattle.model.specs.Release.{Raised, raise, raise_vector, raised_by, swept, owed_now, clear_all, settle_bytes, sweep_bytes, wire_change, wire_due, wire_due_of, settled, swept_for, bytes_for}
use Rattle.model.specs.Sound.{given_of, shape}
use Rattle.model.proofs.Vectors.WaitingLaws.{InRange, OnlyWaiting, only_refl, only_registers, change_only, waits-set}
use Rattle.model.proofs.Vectors.SweepLaws.{msi-present}
use Rattle.model.proofs.Sound.SoundLaws.{accepts, events_fit, SoundEndpoint, Sound}
use Rattle.model.specs.Ready.{Below, Ready}
use Rattle.model.proofs.Vectors.SettleLaws.{ready, ready_only, buffered, below}

-- ---- the vector of an event

-- MSI-X is present where it is in force
pub msix-present : (s : Shape) (r : Registers) → mode_of s r ≡ Msix → msix_present s ≡ true
unfolding mode_of
msix-present s r = go (msix_present s) (msix_control_bit s r 15) (msi_present s && msi_control_bit s r 0)
  where
    go : (p b m : Bool) → cond (p && b) Msix (cond m Msi Pin) ≡ Msix → p ≡ true
    go true b m e = refl
    go false b true e = absurd (let z : ◌≡◌ {A = ℕ} 0 1 = cc in omega arith)
    go false b false e = absurd (let z : ◌≡◌ {A = ℕ} 0 1 = cc in omega arith)

pub granted_pos : (s : Shape) (r : Registers) → 0 < granted s r
unfolding granted
granted_pos s r = pow_pos (min (enable_field s r) s.msi.capable)

pub granted-le : (s : Shape) (r : Registers) → granted s r ≤ 2 ^ s.msi.capable
unfolding granted
granted-le s r = pow_mono (min-le_right (enable_field s r) s.msi.capable)

-- it is one of the card's
pub vector_counted : (m : Mode) (u : Endpoint) (e v : ℕ) → SoundEndpoint u → e < u.function.events → mode_of (shape u) (registers u) ≡ m
    → vector_of m (shape u) (registers u) e ≡ some v → v < vector_count m (shape u)
unfolding vector_of vector_count msi_vectors
vector_counted Pin u e v k h q n = absurd (none-ne-some v n)
vector_counted Msi u e v k h q n =
    rw (msi-present (shape u) (registers u) q)
    (omega (arith, some-injective _ _ n, mod-lt e (granted_pos (shape u) (registers u)), granted-le (shape u) (registers u)))
vector_counted Msix u e v k h q n =
    let f = events_fit u.function.events (shape u) (accepts (given_of u) k.start).events in
    omega (arith, some-injective e v n, f.2 (msix-present (shape u) (registers u) q))

-- ---- what a sound card owes

idle : (m : Mode) (u : Endpoint) → SoundEndpoint u → mode_of (shape u) (registers u) ≡ m → owed m (shape u) u ≡ []
unfolding owed_now
idle m u k q = rw q at k.quiet

-- an open vector does not wait
pub open_idle : (m : Mode) (u : Endpoint) (v : ℕ) → SoundEndpoint u → mode_of (shape u) (registers u) ≡ m → v < vector_count m (shape u)
    → (is_open m (shape u) (registers u) v && waits m u v) ≡ false
unfolding owed
open_idle m u v k q h =
    keep-nil (λ v. is_open m (shape u) (registers u) v && waits m u v) (count 0 (vector_count m (shape u))) (idle m u k q) v
    (count-member 0 (vector_count m (shape u)) v (omega arith) (omega arith))

-- nothing owed, nothing swept
pub swept_none : (s : Shape) (u : Endpoint) → owed_now s u ≡ [] → swept s u ≡ u
unfolding swept clear_all swept_for owed_now
swept_none s u e = rw e

pub bytes-none : (s : Shape) (u : Endpoint) → owed_now s u ≡ [] → sweep_bytes s u ≡ []
unfolding sweep_bytes join bytes_for owed_now
bytes-none s u e = rw e

-- a wire that stays sends nothing
pub no_change : (requester : ℕ) (r : Registers) (level : Bool) → wire_change requester r level level ≡ []
unfolding wire_change
no_change requester r level = rw (beq_refl level)

-- a function whose waiting bits alone changed owes nothing, if none of its open vectors waits
pub only_quiet : (m : Mode) (u u' : Endpoint) → OnlyWaiting u u' → mode_of (shape u) (registers u) ≡ m
    → ((x : ℕ) → x < vector_count m (shape u) → (is_open m (shape u) (registers u) x && waits m u' x) ≡ false) → owed_now (shape u) u' ≡ []
unfolding owed_now owed
only_quiet m u u' o q idles =
    ap
    (λ (r : Registers).
    keep (λ x. is_open (mode_of (shape u) r) (shape u) r x && waits (mode_of (shape u) r) u' x) (count 0 (vector_count (mode_of (shape u) r) (shape u))))
    (only_registers o)
    ∙ ap (λ (n : Mode). keep (λ x. is_open n (shape u) (registers u) x && waits n u' x) (count 0 (vector_count n (shape u)))) q
    ∙ keep-none (λ x. is_open m (shape u) (registers u) x && waits m u' x) (count 0 (vector_count m (shape u)))
    (λ x p. idles x (let b = member-count 0 (vector_count m (shape u)) x p in omega arith))

-- ---- an event for vector v of the mechanism in force

-- it leaves the function, or sets the waiting bit of a shut vector
pub data Kept (m : Mode) (u : Endpoint) (v : ℕ) : Endpoint → Type 0 where
  same : Kept m u v u
  held : is_open m (shape u) (registers u) v ≡ false → Kept m u v (change_waiting set_bit m u v)

pub raised_kept : (m : Mode) (u : Endpoint) (v : ℕ) → Kept m u v (raise_vector m (shape u) u v).endpoint
unfolding raise_vector
raised_kept m u v =
    cond_elim (λ (r : Raised). Kept m u v r.endpoint) (is_open m (shape u) (registers u) v) (λ _. same)
    (λ shut. cond_elim (λ (r : Raised). Kept m u v r.endpoint) (waits m u v) (λ _. same) (λ _. held shut))

pub kept_only : (m : Mode) (u : Endpoint) (v : ℕ) (u' : Endpoint) → Kept m u v u' → OnlyWaiting u u'
kept_only m u v u' same = only_refl u
kept_only m u v u' (held _) = change_only set_bit m u v

set_below : (m : Mode) (s : Shape) (u : Endpoint) (v : ℕ) → InRange m u v → v < vector_count m s → Below s u → Below s (change_waiting set_bit m u v)
unfolding change_waiting vector_count set_bit waits pending_bit
set_below Pin s u v r h b = b
set_below Msi s u v r h b = record { msi = or_lt (msi_vectors s) (2 ^ v) u.function.waiting (pow-lt h) b.msi; msix = b.msix }
set_below Msix s u v r h b = record {
  msi = b.msi;
  msix = λ x l. waits-set Msix u v x r ∙ ap₂ ◌||◌ (ne_eqb x v (omega arith)) (b.msix x l);
}

module _ (m : Mode) (u : Endpoint) (v : ℕ) (k : SoundEndpoint u) (q : mode_of (shape u) (registers u) ≡ m) (h : v < vector_count m (shape u)) where
  range : InRange m u v
  range = buffered u k.start m v h

  -- ---- nothing is owed after it

  not_that : (x : ℕ) → is_open m (shape u) (registers u) v ≡ false → (is_open m (shape u) (registers u) x && eqb x v) ≡ false
  not_that x shut = by_test (eqb x v) (λ e. rw (eqb-true x v e) (ap (λ (b : Bool). b && eqb v v) shut)) (λ e. rw e (and-false (is_open m (shape u) (registers u) x)))

  spread : (a b c : Bool) → (a && b) ≡ false → (a && c) ≡ false → (a && (b || c)) ≡ false
  spread true b c p r = rw (p, r)
  spread false b c p r = refl

  still_idle : (u' : Endpoint) → Kept m u v u' → (x : ℕ) → x < vector_count m (shape u) → (is_open m (shape u) (registers u) x && waits m u' x) ≡ false
  still_idle u' same x l = open_idle m u x k q l
  still_idle u' (held shut) x l =
      ap (λ (b : Bool). is_open m (shape u) (registers u) x && b) (waits-set m u v x range)
      ∙ spread (is_open m (shape u) (registers u) x) (eqb x v) (waits m u x) (not_that x shut) (open_idle m u x k q l)

  pub kept_quiet : (u' : Endpoint) → Kept m u v u' → owed_now (shape u) u' ≡ []
  kept_quiet u' c = only_quiet m u u' (kept_only m u v u' c) q (still_idle u' c)

  -- ---- and the function is ready

  kept-below : (u' : Endpoint) → Kept m u v u' → Below (shape u) u'
  kept-below u' same = below (shape u) u k.below
  kept-below u' (held _) = set_below m (shape u) u v range h (below (shape u) u k.below)

  pub kept-ready : (u' : Endpoint) → Kept m u v u' → Ready (shape u) u'
  kept-ready u' c = ready_only (shape u) u u' (ready u k) (kept_only m u v u' c) (kept-below u' c)

-- ---- an event of either mechanism, or of the pin

-- what an event below E leaves of a sound function, and what a withdrawal leaves: only waiting bits differ, and nothing is owed
pub record Quiet (u u' : Endpoint) : Type 0 where
  pub only : OnlyWaiting u u'
  pub ready : Ready (shape u) u'
  pub quiet : owed_now (shape u) u' ≡ []

module _ (u : Endpoint) (k : SoundEndpoint u) (e : ℕ) (h : e < u.function.events) where
  -- x is what it means
  meant_quiet : (m : Mode) (x : Option ℕ) → mode_of (shape u) (registers u) ≡ m → vector_of m (shape u) (registers u) e ≡ x → Quiet u (raise m (shape u) u x).endpoint
  unfolding raise
  meant_quiet m none q n = record { only = only_refl u; ready = ready u k; quiet = k.quiet }
  meant_quiet m (some v) q n =
      let l = vector_counted m u e v k h q n in
      let c = raised_kept m u v in
      record { only = kept_only m u v _ c; ready = kept-ready m u v k q l _ c; quiet = kept_quiet m u v k q l _ c }

  pub event_quiet : Quiet u (raised_by (shape u) u e).endpoint
  unfolding raised_by
  event_quiet = meant_quiet (mode_of (shape u) (registers u)) _ refl refl

-- ---- where nothing is owed, the wire stays, and nothing is sent

module _ (w : World) (k : Sound w) (u : Endpoint) (q : Quiet w.endpoint u) where
  due : wire_due_of (shape w.endpoint) u ≡ w.wire
  due = ap₂ (wire_due (shape w.endpoint)) q.only.line (only_registers q.only) ∙ sym k.wire

  pub quiet_settled : settled (shape w.endpoint) u ≡ record { endpoint = u; wire = w.wire }
  quiet_settled = λ i. record { endpoint = swept_none (shape w.endpoint) u q.quiet i; wire = due i }

  quiet_bytes : settle_bytes (shape w.endpoint) w.wire u ≡ []
  unfolding settle_bytes
  quiet_bytes =
      ap₂ (λ (b : Bool) (l : List ℕ). wire_change u.function.requester (registers u) w.wire b ++ l) due (bytes-none (shape w.endpoint) u q.quiet)
      ∙ ap (λ (l : List ℕ). l ++ []) (no_change u.function.requester (registers u) w.wire)

-- so nothing follows an event's own packet
module _ (w : World) (k : Sound w) (e : ℕ) (h : e < w.endpoint.function.events) where
  pub event-settled : settled (shape w.endpoint) (raised_by (shape w.endpoint) w.endpoint e).endpoint
      ≡ record { endpoint = (raised_by (shape w.endpoint) w.endpoint e).endpoint; wire = w.wire }
  event-settled = quiet_settled w k _ (event_quiet w.endpoint k.endpoint e h)

  pub event-bytes : settle_bytes (shape w.endpoint) w.wire (raised_by (shape w.endpoint) w.endpoint e).endpoint ≡ []
  event-bytes = quiet_bytes w k _ (event_quiet w.endpoint k.endpoint e h)
