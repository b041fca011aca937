-- A withdrawal on a sound card: that waiting bit alone is cleared, nothing is owed after it, and the card stays sound. Assumes nothing.
use mathlib.Core.Path.{◌≡◌, refl, ap, ◌∙◌}
use mathlib.Core.Bool.{Bool, true, false, not, ◌&&◌, and-true, true≢false}
use mathlib.Core.List.{[], ◌∷◌}
use Prim.Native.Nat.{ℕ, ◌<◌}
use native.Mathlib.Omega.{arith}
use lib.Dec.{eqb}
use Rattle.words.specs.Bits.{clear_bit}
use Rattle.words.proofs.BoolLaws.{by_test}
use Rattle.model.specs.declared.Mode.{Mode}
use Rattle.model.specs.declared.Mode.TheVariants.{Msix}
use Rattle.model.specs.World.{World, Endpoint, registers}
use Rattle.model.specs.Vectors.{same_mode, in_force, is_open, waits, vector_count}
use Rattle.model.specs.Release.{clear_all, settled}
use Rattle.model.specs.Sound.{shape, sound}
use Rattle.model.specs.Ready.{Below}
use Rattle.model.specs.Withdrawals.{mode_now, withdrawn}
use Rattle.model.proofs.Sound.SoundLaws.{SoundEndpoint, is-sound, sound_is}
use Rattle.model.proofs.Vectors.WaitingLaws.{InRange, OnlyWaiting, change_only, waits-cleared, waits-apart}
use Rattle.model.proofs.Vectors.SweepLaws.{in-force}
use Rattle.model.proofs.Vectors.RaisedLaws.{eqb_swap}
use Rattle.model.proofs.Vectors.SettleLaws.{ready, ready_only, buffered, below, clear-le-waiting, settled-sound}
use Rattle.model.proofs.Vectors.EventLaws.{Quiet, open_idle, only_quiet, quiet_settled}

pub withdrawn_only : (u : Endpoint) (v : ℕ) → OnlyWaiting u (withdrawn u v)
unfolding withdrawn
withdrawn_only u v = change_only clear_bit (mode_now u) u v

still_not : (o w c : Bool) → (o && w) ≡ false → (o && (w && not c)) ≡ false
still_not true true c e = absurd (true≢false e)
still_not true false c e = refl
still_not false w c e = refl

module _ (u : Endpoint) (k : SoundEndpoint u) (v : ℕ) (h : v < vector_count (mode_now u) (shape u)) where
  range : InRange (mode_now u) u v
  range = buffered u k.start (mode_now u) v h

  -- a vector waits if it did, and was not withdrawn: it is another one, or of another mechanism
  pub withdrawn-waits : (m : Mode) (x : ℕ) → waits m (withdrawn u v) x ≡ (waits m u x && not (in_force m (shape u) (registers u) && eqb v x))
  unfolding withdrawn in_force
  withdrawn-waits m x =
      by_test (same_mode m (mode_now u))
      (λ f. let j : mode_now u ≡ m = in-force m (mode_now u) f in rw (f, ← j, eqb_swap x v) (waits-cleared (mode_now u) u v x range))
      (λ f. rw (f, and-true) (waits-apart clear_bit (mode_now u) m u v x f))

  withdrawn-below : Below (shape u) (withdrawn u v)
  unfolding withdrawn clear_all
  withdrawn-below =
      let b : Below (shape u) u = below (shape u) u k.below in
      record {
        msi = omega (arith, b.msi, clear-le-waiting (mode_now u) u (v ∷ []));
        msix = λ x l. withdrawn-waits Msix x ∙ ap (λ (w : Bool). w && not (in_force Msix (shape u) (registers u) && eqb v x)) (b.msix x l);
      }

  pub withdrawn_quiet : Quiet u (withdrawn u v)
  withdrawn_quiet = record {
    only = withdrawn_only u v;
    ready = ready_only (shape u) u (withdrawn u v) (ready u k) (withdrawn_only u v) withdrawn-below;
    quiet =
        only_quiet (mode_now u) u (withdrawn u v) (withdrawn_only u v) refl
        (λ x l.
        ap (λ (b : Bool). is_open (mode_now u) (shape u) (registers u) x && b) (withdrawn-waits (mode_now u) x)
        ∙ still_not (is_open (mode_now u) (shape u) (registers u) x) (waits (mode_now u) u x) (in_force (mode_now u) (shape u) (registers u) && eqb v x)
        (open_idle (mode_now u) u x k refl l));
  }

-- the wire stays as it should be
pub withdrawn-sound : (w : World) → sound w ≡ true → (v : ℕ) → v < vector_count (mode_now w.endpoint) (shape w.endpoint)
    → sound (record { endpoint = withdrawn w.endpoint v; wire = w.wire }) ≡ true
withdrawn-sound w k v h =
    let q : Quiet w.endpoint (withdrawn w.endpoint v) = withdrawn_quiet w.endpoint (is-sound w k).endpoint v h in
    rw (quiet_settled w (is-sound w k) (withdrawn w.endpoint v) q)
    at (sound_is (settled (shape w.endpoint) (withdrawn w.endpoint v)) (settled-sound (shape w.endpoint) (withdrawn w.endpoint v) q.ready))
