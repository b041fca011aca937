-- What follows every accepted write, line call and event leaves a sound card. Assumes nothing.
use mathlib.Core.Path.{◌≡◌, refl, sym, ap, ap₂, ◌∙◌}
use mathlib.Core.Bool.{Bool, true, false, not, ◌&&◌}
use mathlib.Core.List.{List, [], ◌∷◌}
use Prim.Native.Nat.{ℕ, ◌-◌, ◌*◌, ◌%◌, ◌^◌, ◌≤◌, ◌<◌}
use native.Mathlib.Omega.{arith}
use lib.Dec.{ltb, eqb}
use lib.ListN.{length, get_or-eq_default}
use borrow.Author.Tests.{lt-ltb, ltb-true, ltb-false, not-true}
use Rattle.words.specs.Lists.{all, count, keep}
use Rattle.words.specs.Bits.{bit, clear_bit}
use Rattle.words.specs.Bytes.{byte}
use Rattle.words.proofs.BitLaws.{bit_of_zero, clear-le}
use Rattle.words.proofs.BoolLaws.{both, neither, and_intro, by_test}
use Rattle.words.proofs.ListLaws.{all_holds, holds_all, member-count, count-member, keep-none}
use Rattle.model.specs.declared.Mode.{Mode}
use Rattle.model.specs.declared.Mode.TheVariants.{Pin, Msi, Msix}
use Rattle.model.specs.declared.Shape.{Shape}
use Rattle.model.specs.Shape.{shape_of, msi_vectors, pending_bytes}
use Rattle.model.specs.Registers.{stored_zero, entry_zero}
use Rattle.model.specs.World.{Endpoint, Registers, registers}
use Rattle.model.specs.Vectors.{waits, is_open, change_waiting, owed, vector_count, mode_of, pending_bit}
use Rattle.model.specs.Release.{pin_number, swept, owed_now, clear_all, settled, wire_due, wire_due_of, swept_for}
use Rattle.model.specs.Start.{given, start_refusal, bad_header}
use Rattle.model.specs.Sound.{given_of, shape, zero_bits, waits_below}
use Rattle.model.specs.Ready.{Below, Ready}
use Rattle.model.proofs.Vectors.WaitingLaws.{waits-same, OnlyWaiting, only_registers}
use Rattle.model.proofs.Vectors.SweepLaws.{Buffered, swept_only, swept-waits}
use Rattle.model.proofs.Sound.SoundLaws.{accepts, buffers_fit, SoundEndpoint, Sound}

-- ---- a start that accepts has a waiting bit for each vector

pub buffered : (u : Endpoint) → start_refusal (given_of u) ≡ 0 → Buffered (shape u) u
unfolding vector_count pending_bytes
buffered u e Pin v h = absurd (omega arith)
buffered u e Msi v h = tt
buffered u e Msix v h =
    let p : length u.pending ≡ pending_bytes (shape u) = (buffers_fit (shape u) (length u.table) (length u.pending) (accepts (given_of u) e).buffers).1 in
    omega arith

-- ---- no waiting bit beyond the card's vectors

pub below : (s : Shape) (u : Endpoint) → waits_below s u ≡ true → Below s u
unfolding waits_below waits pending_bit
below s u e =
    let n : ℕ = s.msix.vectors in
    let l : List ℕ = count n (8 * length u.pending - n) in
    let p = both (ltb u.function.waiting (2 ^ msi_vectors s)) (all (λ v. not (waits Msix u v)) l) e in
    record {
      msi = ltb-true u.function.waiting (2 ^ msi_vectors s) p.0;
      msix = λ v h.
          by_test (ltb v (8 * length u.pending))
          (λ q.
          let lt : v < 8 * length u.pending = ltb-true v (8 * length u.pending) q in
          not-true (waits Msix u v) (all_holds (λ v. not (waits Msix u v)) l p.1 v (count-member n (8 * length u.pending - n) v h (omega arith))))
          (λ q.
          let ge : 8 * length u.pending ≤ v = ltb-false v (8 * length u.pending) q in
          ap (λ (b : ℕ). bit b (v % 8)) (get_or-eq_default u.pending 0 (omega arith)) ∙ bit_of_zero (v % 8));
    }

pub is_below : (s : Shape) (u : Endpoint) → Below s u → waits_below s u ≡ true
unfolding waits_below
is_below s u b =
    and_intro (ltb u.function.waiting (2 ^ msi_vectors s)) _ (lt-ltb u.function.waiting (2 ^ msi_vectors s) b.msi)
    (holds_all _ _ (λ v m. ap not (b.msix v (member-count s.msix.vectors (8 * length u.pending - s.msix.vectors) v m).0)))

pub below-same : (s : Shape) (u u' : Endpoint) → u'.function.waiting ≡ u.function.waiting → u'.pending ≡ u.pending → Below s u → Below s u'
below-same s u u' e p b = record { msi = rw e b.msi; msix = λ v h. waits-same Msix u u' v e p ∙ b.msix v h }

-- ---- a function before it is swept

pub ready : (u : Endpoint) → SoundEndpoint u → Ready (shape u) u
ready u k = record { shaped = refl; start = k.start; config = k.config; table = k.table; below = below (shape u) u k.below }

-- its pin is none or one of the four
pub pin-small : (s : Shape) (u : Endpoint) → Ready s u → pin_number (registers u) ≤ 4
unfolding bad_header pin_number
pin-small s u k =
    let c : List ℕ = u.function.config in
    ltb-false 4 (byte c 0x3d) (neither (not (eqb (byte c 0x0e % 128) 0)) (ltb 4 (byte c 0x3d)) (accepts (given_of u) k.start).header).1

-- the given of a function whose waiting bits alone differ
given_only : (u u' : Endpoint) → OnlyWaiting u u' → given_of u' ≡ given_of u
given_only u u' o = λ i.
    given (o.config i) (o.sizes i) (o.events i) (o.requester i) (length (o.table i)) (o.pending_length i)

-- a function with other waiting bits is ready
pub ready_only : (s : Shape) (u u' : Endpoint) → Ready s u → OnlyWaiting u u' → Below s u' → Ready s u'
ready_only s u u' k o b = record {
  shaped = ap shape_of o.config ∙ k.shaped;
  start = ap start_refusal (given_only u u' o) ∙ k.start;
  config = ap (zero_bits (stored_zero s)) o.config ∙ k.config;
  table = ap (zero_bits entry_zero) o.table ∙ k.table;
  below = b;
}

-- ---- the sweep

pub clear-le-waiting : (m : Mode) (u : Endpoint) (vs : List ℕ) → (clear_all m u vs).function.waiting ≤ u.function.waiting
unfolding clear_all change_waiting clear_bit
clear-le-waiting m u [] = omega arith
clear-le-waiting Pin u (v ∷ vs) = clear-le-waiting Pin u vs
clear-le-waiting Msi u (v ∷ vs) =
    let h = clear-le-waiting Msi (change_waiting clear_bit Msi u v) vs in
    omega (arith, h, clear-le (2 ^ v) u.function.waiting)
clear-le-waiting Msix u (v ∷ vs) = clear-le-waiting Msix (change_waiting clear_bit Msix u v) vs

no_more : (w o : Bool) → w ≡ false → (w && not o) ≡ false
no_more w o e = rw e

swept-below : (s : Shape) (u : Endpoint) → Buffered s u → Below s u → Below s (swept s u)
unfolding swept swept_for owed_now
swept-below s u r b = record {
  msi = omega (arith, b.msi, clear-le-waiting (mode_of s (registers u)) u (owed_now s u));
  msix = λ v h. swept-waits Msix s u v r ∙ no_more (waits Msix u v) (is_open Msix s (registers u) v) (b.msix v h);
}

nobody : (o w : Bool) → (o && (w && not o)) ≡ false
nobody true true = refl
nobody true false = refl
nobody false w = refl

-- nothing is owed after it
pub swept_quiet : (s : Shape) (u : Endpoint) → Buffered s u → owed_now s (swept s u) ≡ []
unfolding owed_now owed
swept_quiet s u b =
    let r : registers (swept s u) ≡ registers u = only_registers (swept_only s u) in
    let m : Mode = mode_of s (registers u) in
    ap (λ (x : Registers). keep (λ v. is_open (mode_of s x) s x v && waits (mode_of s x) (swept s u) v) (count 0 (vector_count (mode_of s x) s))) r
    ∙ keep-none (λ v. is_open m s (registers u) v && waits m (swept s u) v) (count 0 (vector_count m s))
    (λ v _. ap (λ (w : Bool). is_open m s (registers u) v && w) (swept-waits m s u v b) ∙ nobody (is_open m s (registers u) v) (waits m u v))

due_only : (s : Shape) (u u' : Endpoint) → OnlyWaiting u u' → wire_due_of s u' ≡ wire_due_of s u
due_only s u u' o = ap₂ (wire_due s) o.line (only_registers o)

-- ---- the card after it is sound, with the same shape

pub settled-sound : (s : Shape) (u : Endpoint) → Ready s u → Sound (settled s u)
settled-sound s u k = record {
  endpoint = record {
    start = r.start;
    config = rw r.shaped r.config;
    table = r.table;
    below = rw r.shaped (is_below s (swept s u) r.below);
    quiet = rw r.shaped (swept_quiet s u b);
  };
  wire = sym (ap (λ (t : Shape). wire_due_of t (swept s u)) r.shaped ∙ due_only s u (swept s u) (swept_only s u));
}
  where
    b : Buffered s u
    b = ap-shape k.shaped (buffered u k.start)
      where
        ap-shape : shape u ≡ s → Buffered (shape u) u → Buffered s u
        ap-shape e h = rw e at h

    r : Ready s (swept s u)
    r = ready_only s u (swept s u) k (swept_only s u) (swept-below s u b k.below)
