-- What it says that a start accepts, and that a card is sound. Assumes nothing.
use mathlib.Core.Path.{◌≡◌, refl, sym, ap, ◌∙◌}
use mathlib.Core.Bool.{Bool, true, false, not, ◌&&◌, ◌||◌, beq, false≢true}
use mathlib.Core.List.{List, [], ◌∷◌}
use Prim.Native.Nat.{ℕ, ◌%◌, ◌≤◌, ◌<◌}
use native.Mathlib.Omega.{arith}
use lib.Dec.{ltb, eqb}
use borrow.Author.Tests.{eqb-true, eqb-false, not-false, ltb-false}
use Rattle.words.proofs.BoolLaws.{both, neither, and_intro, beq_true, beq_refl, passed, second_false}
use Rattle.model.specs.declared.Shape.{Shape}
use Rattle.model.specs.Capabilities.{capabilities, listed, broken}
use Rattle.model.specs.Shape.{shape_of, msix_present, table_bytes, pending_bytes}
use Rattle.model.specs.Registers.{stored_zero, entry_zero}
use Rattle.model.specs.World.{World, Endpoint}
use Rattle.model.specs.Release.{owed_now, wire_due_of}
use Rattle.model.specs.Start.{Given, start_refusal, bad_header, twice, bad_structures, bad_regions, bad_events, bad_requester, bad_buffers}
use Rattle.model.specs.Sound.{given_of, shape, zero_bits, waits_below, is_empty, sound_endpoint, sound}

-- ---- the rows of a start that is accepted

pub record Accepts (g : Given) : Type 0 where
  pub header : bad_header g.config ≡ false
  pub whole : broken (capabilities g.config) ≡ false
  pub once : twice g.config (listed (capabilities g.config)) ≡ false
  pub structures : bad_structures (listed (capabilities g.config)) (shape_of g.config) ≡ false
  pub regions : bad_regions g.sizes (shape_of g.config) ≡ false
  pub events : bad_events g.events (shape_of g.config) ≡ false
  pub requester : bad_requester g.requester ≡ false
  pub buffers : bad_buffers (shape_of g.config) g.table_length g.pending_length ≡ false

pub accepts : (g : Given) → start_refusal g ≡ 0 → Accepts g
unfolding start_refusal
accepts g e =
    let a = passed 10 _ refl e in
    let b = passed 11 _ refl a.1 in
    let c = passed 12 _ refl b.1 in
    let d = passed 13 _ refl c.1 in
    let f = passed 14 _ refl d.1 in
    let h = passed 15 _ refl f.1 in
    let i = passed 16 _ refl h.1 in
    let j = passed 17 _ refl i.1 in
    record {
      header = a.0;
      whole = b.0;
      once = c.0;
      structures = d.0;
      regions = f.0;
      events = h.0;
      requester = i.0;
      buffers = j.0;
    }

-- ---- what follows for the buffers and the number of vectors

pub buffers_fit : (s : Shape) (t p : ℕ) → bad_buffers s t p ≡ false → (t ≡ table_bytes s) × (p ≡ pending_bytes s)
unfolding bad_buffers
buffers_fit s t p e =
    let f = neither (not (eqb t (table_bytes s))) (not (eqb p (pending_bytes s))) e in
    (eqb-true t (table_bytes s) (not-false (eqb t (table_bytes s)) f.0), eqb-true p (pending_bytes s) (not-false (eqb p (pending_bytes s)) f.1))

pub events_fit : (e : ℕ) (s : Shape) → bad_events e s ≡ false → (0 < e) × (e ≤ 2048) × (msix_present s ≡ true → s.msix.vectors ≡ e)
unfolding bad_events
events_fit e s h =
    let f = neither (eqb e 0 || ltb 2048 e) (msix_present s && not (eqb s.msix.vectors e)) h in
    let g = neither (eqb e 0) (ltb 2048 e) f.0 in
    let z : e ≡ 0 → ⊥ = eqb-false e 0 g.0 in (
      omega (arith, z),
      ltb-false 2048 e g.1,
      λ p. eqb-true s.msix.vectors e (not-false (eqb s.msix.vectors e) (second_false (msix_present s) (not (eqb s.msix.vectors e)) p f.1)),
    )

pub requester-fits : (r : ℕ) → bad_requester r ≡ false → r ≤ 65535
unfolding bad_requester
requester-fits r e = ltb-false 65535 r (neither (not (eqb (r % 8) 0)) (ltb 65535 r) e).1

-- ---- sound

empty-true : (l : List ℕ) → is_empty l ≡ true → l ≡ []
unfolding is_empty
empty-true [] e = refl
empty-true (x ∷ l) e = absurd (false≢true e)

-- of a function with its shape
pub record SoundEndpoint (u : Endpoint) : Type 0 where
  pub start : start_refusal (given_of u) ≡ 0
  pub config : zero_bits (stored_zero (shape u)) u.function.config ≡ true
  pub table : zero_bits entry_zero u.table ≡ true
  pub below : waits_below (shape u) u ≡ true
  pub quiet : owed_now (shape u) u ≡ []

pub sound-endpoint : (u : Endpoint) → sound_endpoint (shape u) u ≡ true → SoundEndpoint u
unfolding sound_endpoint
sound-endpoint u e =
    let a = both _ (is_empty (owed_now (shape u) u)) e in
    let b = both _ (waits_below (shape u) u) a.0 in
    let c = both _ (zero_bits entry_zero u.table) b.0 in
    let d = both (eqb (start_refusal (given_of u)) 0) (zero_bits (stored_zero (shape u)) u.function.config) c.0 in
    record {
      start = eqb-true (start_refusal (given_of u)) 0 d.0;
      config = d.1;
      table = c.1;
      below = b.1;
      quiet = empty-true (owed_now (shape u) u) a.1;
    }

pub endpoint-sound : (u : Endpoint) → SoundEndpoint u → sound_endpoint (shape u) u ≡ true
unfolding sound_endpoint is_empty
endpoint-sound u k = rw (k.start, k.config, k.table, k.below, k.quiet)

-- of a card
pub record Sound (w : World) : Type 0 where
  pub endpoint : SoundEndpoint w.endpoint
  pub wire : w.wire ≡ wire_due_of (shape w.endpoint) w.endpoint

pub is-sound : (w : World) → sound w ≡ true → Sound w
unfolding sound
is-sound w e =
    let a = both (sound_endpoint (shape w.endpoint) w.endpoint) (beq w.wire (wire_due_of (shape w.endpoint) w.endpoint)) e in
    record { endpoint = sound-endpoint w.endpoint a.0; wire = beq_true w.wire (wire_due_of (shape w.endpoint) w.endpoint) a.1 }

pub sound_is : (w : World) → Sound w → sound w ≡ true
unfolding sound
sound_is w k =
    and_intro (sound_endpoint (shape w.endpoint) w.endpoint) (beq w.wire (wire_due_of (shape w.endpoint) w.endpoint))
    (endpoint-sound w.endpoint k.endpoint)
    (ap (λ (b : Bool). beq w.wire b) (sym k.wire) ∙ beq_refl w.wire)
