-- A started card is sound, has the shape of the configuration given, and the pin in force. Assumes nothing.
use mathlib.Core.Path.{◌≡◌, refl, sym, ap, ap₂, ◌∙◌}
use mathlib.Core.Bool.{Bool, true, false, not, ◌&&◌, false≢true, and-false}
use mathlib.Core.List.{List, [], ◌∷◌}
use Prim.Native.Nat.{ℕ, ◌+◌, ◌/◌, ◌%◌, ◌^◌, ◌≤◌}
use native.Mathlib.Omega.{arith}
use lib.Dec.{ltb, eqb}
use lib.ListN.{length, length-replicate, get_or-eq_default}
use lib.Pow.{pow_pos, pow_mono}
use borrow.Author.Tests.{lt-ltb, ltb-true, ltb-false}
use Rattle.words.specs.Lists.{count, keep, first_of}
use Rattle.words.specs.Bits.{bit}
use Rattle.words.specs.Bytes.{byte, bit_at}
use Rattle.words.proofs.ElementLaws.{all-equal}
use Rattle.words.proofs.BitLaws.{bit_of_zero}
use Rattle.words.proofs.BoolLaws.{and_intro, by_test}
use Rattle.words.proofs.ListLaws.{holds_all}
use Rattle.model.specs.declared.Mode.{Mode}
use Rattle.model.specs.declared.Mode.TheVariants.{Pin, Msi, Msix}
use Rattle.model.specs.Capabilities.{capabilities, listed, broken, with_id}
use Rattle.model.specs.Shape.{shape_of, shape_in, msi_of, msix_of, msi_at, msix_at, no_msi, no_msix, form_of, msi_present, msix_present, table_bytes, pending_bytes, msi_vectors}
use Rattle.model.specs.Registers.{writable, stored_zero, msi_writable, msix_writable, started_config, started_table}
use Rattle.model.specs.World.{Endpoint, registers}
use Rattle.model.specs.Vectors.{mode_of, msi_control_bit, msix_control_bit, waits, owed, vector_count, pending_bit}
use Rattle.model.specs.Release.{owed_now, wire_due, level_due}
use Rattle.model.specs.Start.{Given, given, start_refusal, bad_structures, started}
use Rattle.model.specs.Sound.{given_of, shape, waits_below, sound}
use Rattle.model.specs.Calls.{started_world}
use Rattle.model.proofs.Shapes.CapabilityLaws.{first-high, if_absent}
use Rattle.model.proofs.Shapes.PlaceLaws.{placed, size_large, in-msi, at_msix}
use Rattle.model.proofs.Shapes.ShapeLaws.{bit_fixed, shape_same, refusal-same}
use Rattle.model.proofs.Registers.FixedLaws.{length-started, byte-started, fixed_started}
use Rattle.model.proofs.Sound.SoundLaws.{Accepts, accepts, buffers_fit, events_fit, SoundEndpoint, sound_is}
use Rattle.model.proofs.Registers.ZeroLaws.{zero-started}
use Rattle.model.proofs.Registers.TableLaws.{length-table, zero-table}

-- ---- a present capability stands at 40h or above

msi_place : (c l : List ℕ) → with_id c (listed (capabilities c)) 0x05 ≡ l → not (eqb (msi_of c l).at 0) ≡ true → 64 ≤ (msi_of c l).at
unfolding msi_of msi_at no_msi
msi_place c [] e p = absurd (false≢true p)
msi_place c (a ∷ r) e p = first-high c 0x05 a r e

pub msi-high : (c : List ℕ) → msi_present (shape_of c) ≡ true → 64 ≤ (shape_of c).msi.at
unfolding msi_present shape_of shape_in
msi-high c = msi_place c (with_id c (listed (capabilities c)) 0x05) refl

msix_place : (c l : List ℕ) → with_id c (listed (capabilities c)) 0x11 ≡ l → not (eqb (msix_of c l).at 0) ≡ true → 64 ≤ (msix_of c l).at
unfolding msix_of msix_at no_msix
msix_place c [] e p = absurd (false≢true p)
msix_place c (a ∷ r) e p = first-high c 0x11 a r e

pub msix-high : (c : List ℕ) → msix_present (shape_of c) ≡ true → 64 ≤ (shape_of c).msix.at
unfolding msix_present shape_of shape_in
msix-high c = msix_place c (with_id c (listed (capabilities c)) 0x11) refl

-- without MSI-X there is no vector
pub msix_absent : (c : List ℕ) → msix_present (shape_of c) ≡ false → (shape_of c).msix.vectors ≡ 0
unfolding msix_present shape_of shape_in msix_of msix_at no_msix
msix_absent c p = if_absent c 0x11 (λ l. (msix_of c l).at) (λ l. (msix_of c l).vectors ≡ 0) (λ a r. refl) p refl

-- N is at most 2,048, and 2^Capable at most 32
pub few-vectors : (g : Given) → Accepts g → (shape_of g.config).msix.vectors ≤ 2048
few-vectors g ok =
    let f = events_fit g.events (shape_of g.config) ok.events in
    by_test (msix_present (shape_of g.config)) (λ p. omega (arith, f.2 p)) (λ p. omega (arith, msix_absent g.config p))

pub few-msi : (g : Given) → Accepts g → msi_vectors (shape_of g.config) ≤ 32
unfolding msi_vectors
few-msi g ok =
    by_test (msi_present (shape_of g.config))
    (λ p.
    let c : (shape_of g.config).msi.capable ≤ 5 = ltb-false 5 (shape_of g.config).msi.capable ((placed (listed (capabilities g.config)) (shape_of g.config) ok.structures).few p) in
    rw p (pow_mono c))
    (λ p. rw p (omega arith))

-- of any mechanism
pub few-counted : (m : Mode) (g : Given) → Accepts g → vector_count m (shape_of g.config) ≤ 2048
unfolding vector_count
few-counted Pin g ok = omega arith
few-counted Msi g ok = omega (arith, few-msi g ok)
few-counted Msix g ok = few-vectors g ok

-- ---- the configuration of a started card

module _ (c : List ℕ) (whole : broken (capabilities c) ≡ false) (structures : bad_structures (listed (capabilities c)) (shape_of c) ≡ false) where
  pub shape-started : shape_of (started_config (shape_of c) c) ≡ shape_of c
  shape-started = shape_same c (started_config (shape_of c) c) whole structures (fixed_started (shape_of c) c)

  pub refusal-started : (sizes : List ℕ) (events requester table pending : ℕ)
      → start_refusal (given (started_config (shape_of c) c) sizes events requester table pending) ≡ start_refusal (given c sizes events requester table pending)
  refusal-started = refusal-same c (started_config (shape_of c) c) whole structures (fixed_started (shape_of c) c)

  no : (a b : Bool) → (a && not b && not true) ≡ false
  no a b = and-false (a && not b)

  -- a writable bit is 0
  pub writable-started : (i k : ℕ) → bit (writable (shape_of c) i) k ≡ true → bit (byte (started_config (shape_of c) c) i) k ≡ false
  writable-started i k h =
      by_test (ltb i (length c))
      (λ e. ap (λ (b : ℕ). bit b k) (byte-started (shape_of c) c i (ltb-true i (length c) e)) ∙ bit_fixed (shape_of c) i (byte c i) k
      ∙ ap (λ (t : Bool). bit (byte c i) k && not (bit (stored_zero (shape_of c) i) k) && not t) h ∙ no (bit (byte c i) k) (bit (stored_zero (shape_of c) i) k))
      (λ e. ap (λ (b : ℕ). bit b k) (get_or-eq_default (started_config (shape_of c) c) 0 (omega (arith, length-started (shape_of c) c, ltb-false i (length c) e))) ∙ bit_of_zero k)

  -- MSI-X control bit 15 and MSI control bit 0 are 0
  msix_off : (t : List ℕ) → msix_present (shape_of c) ≡ true → msix_control_bit (shape_of c) (record { config = started_config (shape_of c) c; table = t }) 15 ≡ false
  unfolding msix_control_bit bit_at msix_writable bit
  msix_off t h =
      let hi : 64 ≤ (shape_of c).msix.at = msix-high c h in
      let i : ℕ = (shape_of c).msix.at + 2 + 1 in
      let f = at_msix (listed (capabilities c)) (shape_of c) i 3 (placed (listed (capabilities c)) (shape_of c) structures) hi (omega arith) (omega arith) in
      writable-started i 7 (ap (λ (m : ℕ). bit m 7) f.0)

  msi_off : (t : List ℕ) → msi_present (shape_of c) ≡ true → msi_control_bit (shape_of c) (record { config = started_config (shape_of c) c; table = t }) 0 ≡ false
  unfolding msi_control_bit bit_at msi_writable bit first_of
  msi_off t h =
      let hi : 64 ≤ (shape_of c).msi.at = msi-high c h in
      let n : 10 ≤ (form_of (shape_of c)).size = size_large (shape_of c) in
      let i : ℕ = (shape_of c).msi.at + 2 + 0 in
      let f = in-msi (shape_of c) i 2 hi (omega arith) (omega arith) in
      writable-started i 0 (ap (λ (m : ℕ). bit m 0) f.0)

  -- so the pin is in force
  pub mode-started : (t : List ℕ) → mode_of (shape_of c) (record { config = started_config (shape_of c) c; table = t }) ≡ Pin
  unfolding mode_of
  mode-started t = rw (off (msix_present (shape_of c)) _ (msix_off t), off (msi_present (shape_of c)) _ (msi_off t))
    where
      off : (p b : Bool) → (p ≡ true → b ≡ false) → (p && b) ≡ false
      off true b h = h refl
      off false b h = refl

-- ---- a started card is sound

module _ (g : Given) (ok : start_refusal g ≡ 0) where
  a : Accepts g
  a = accepts g ok

  abbrev pub u : Endpoint
  u = started g.config g.sizes g.events g.requester

  pub started-shape : shape u ≡ shape_of g.config
  started-shape = shape-started g.config a.whole a.structures

  pub started-mode : mode_of (shape_of g.config) (registers u) ≡ Pin
  started-mode = mode-started g.config a.whole a.structures (started_table (shape_of g.config).msix.vectors)

  start_again : start_refusal (given_of u) ≡ 0
  unfolding table_bytes
  start_again =
      let b = buffers_fit (shape_of g.config) g.table_length g.pending_length a.buffers in
      ap₂ (λ (t p : ℕ). start_refusal (given (started_config (shape_of g.config) g.config) g.sizes g.events g.requester t p))
      (length-table (shape_of g.config).msix.vectors ∙ sym b.0) (length-replicate {A = ℕ} (pending_bytes (shape_of g.config)) 0 ∙ sym b.1)
      ∙ refusal-started g.config a.whole a.structures g.sizes g.events g.requester g.table_length g.pending_length ∙ ok

  -- nothing waits
  pub started-waits : (m : Mode) (v : ℕ) → waits m u v ≡ false
  unfolding waits pending_bit
  started-waits Pin v = refl
  started-waits Msi v = bit_of_zero v
  started-waits Msix v = ap (λ (b : ℕ). bit b (v % 8)) (all-equal (pending_bytes (shape_of g.config)) (v / 8) 0) ∙ bit_of_zero (v % 8)

  few : waits_below (shape_of g.config) u ≡ true
  unfolding waits_below
  few =
      and_intro (ltb 0 (2 ^ msi_vectors (shape_of g.config))) _ (lt-ltb 0 (2 ^ msi_vectors (shape_of g.config)) (pow_pos (msi_vectors (shape_of g.config))))
      (holds_all _ _ (λ v m. ap not (started-waits Msix v)))

  calm : owed_now (shape_of g.config) u ≡ []
  unfolding owed_now owed vector_count keep count
  calm = rw started-mode

  pub started-endpoint : SoundEndpoint u
  started-endpoint = record {
    start = start_again;
    config = rw started-shape (zero-started (shape_of g.config) g.config);
    table = zero-table (shape_of g.config).msix.vectors;
    below = rw started-shape few;
    quiet = rw started-shape calm;
  }

  pub started-sound : sound (started_world g) ≡ true
  unfolding wire_due level_due
  started-sound = sound_is (started_world g) (record { endpoint = started-endpoint; wire = refl })
