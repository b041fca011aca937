-- A card's arrays after a call: as many configuration bytes as before, which stay bytes, and as many sizes. Assumes nothing.
use mathlib.Core.Path.{◌≡◌, refl, sym, ap, ◌∙◌, subst}
use mathlib.Core.Bool.{Bool}
use mathlib.Core.List.{List}
use Prim.Native.Nat.{ℕ, ◌<◌}
use native.Mathlib.Omega.{arith}
use lib.ListN.{length}
use Rattle.words.specs.Bits.{clear}
use Rattle.words.specs.Bytes.{Bytes}
use Rattle.words.proofs.BitLaws.{clear-le}
use Rattle.words.proofs.BytesLaws.{bytes_each}
use Rattle.model.specs.declared.Shape.{Shape}
use Rattle.model.specs.Shape.{shape_of}
use Rattle.model.specs.Registers.{fixed_byte, started_config, writable, stored_zero}
use Rattle.model.specs.World.{World, Endpoint}
use Rattle.model.specs.Start.{Given}
use Rattle.model.specs.Sound.{shape}
use Rattle.model.specs.Calls.{Call, Outcome, step, start_of}
use Rattle.model.proofs.Registers.FixedLaws.{length-started}
use Rattle.model.proofs.Vectors.WaitingLaws.{OnlyWaiting}
use Rattle.model.proofs.Vectors.SweepLaws.{swept_only}
use Rattle.model.proofs.Vectors.RaisedLaws.{raised_only}
use Rattle.model.proofs.Vectors.WithdrawLaws.{withdrawn_only}
use Rattle.model.proofs.Calls.CallLaws.{answered_elim, step_elim}
use Rattle.model.proofs.Calls.Effects.{Effect, reads, saves, settles, raises, withdraws, restarts, effect}

-- the configuration has as many bytes as before, and the sizes are the same
pub record Alike (u u' : Endpoint) : Type 0 where
  pub config : length u'.function.config ≡ length u.function.config
  pub bytes : Bytes u.function.config → Bytes u'.function.config
  pub sizes : u'.function.sizes ≡ u.function.sizes

alike_refl : (u : Endpoint) → Alike u u
alike_refl u = record { config = refl; bytes = λ b. b; sizes = refl }

alike_trans : {u v w : Endpoint} → Alike u v → Alike v w → Alike u w
alike_trans p q = record { config = q.config ∙ p.config; bytes = λ b. q.bytes (p.bytes b); sizes = q.sizes ∙ p.sizes }

alike_only : {u u' : Endpoint} → OnlyWaiting u u' → Alike u u'
alike_only {u} o = record { config = ap length o.config; bytes = λ b. subst Bytes (sym o.config) b; sizes = o.sizes }

fixed-byte : (s : Shape) (i b : ℕ) → b < 256 → fixed_byte s i b < 256
unfolding fixed_byte
fixed-byte s i b h = omega (arith, clear-le (writable s i) (clear (stored_zero s i) b), clear-le (stored_zero s i) b)

pub started-bytes : (s : Shape) (config : List ℕ) → Bytes config → Bytes (started_config s config)
unfolding started_config
started-bytes s config b = bytes_each (fixed_byte s) (fixed-byte s) 0 config b

pub alike_effect : (w : World) → {b : Bool} {v : World} {bytes : List ℕ} → Effect w b v bytes → Alike w.endpoint v.endpoint
alike_effect w reads = alike_refl w.endpoint
alike_effect w saves = alike_refl w.endpoint
alike_effect w (settles u h) =
    alike_trans (record { config = h.config; bytes = h.bytes; sizes = h.sizes }) (alike_only (swept_only (shape w.endpoint) u))
alike_effect w (raises e h) =
    alike_trans (alike_only (raised_only (shape w.endpoint) w.endpoint e)) (alike_only (swept_only (shape w.endpoint) _))
alike_effect w (withdraws v h) = alike_only (withdrawn_only w.endpoint v)
alike_effect w restarts = record {
  config = length-started (shape w.endpoint) w.endpoint.function.config;
  bytes = started-bytes (shape w.endpoint) w.endpoint.function.config;
  sizes = refl;
}

pub alike_step : (w : World) (c : Call) → Alike w.endpoint (step w c).world.endpoint
alike_step w c =
    step_elim w c (λ (r : Outcome). Alike w.endpoint r.world.endpoint) (λ p. alike_effect w (effect w c p)) (λ _ _. alike_refl w.endpoint)

-- ---- lengths alone

-- 256 configuration bytes and six sizes
pub record Sized (u : Endpoint) : Type 0 where
  pub config : length u.function.config ≡ 256
  pub sizes : length u.function.sizes ≡ 6

pub sized_step : (w : World) (c : Call) → Sized w.endpoint → Sized (step w c).world.endpoint
sized_step w c k = let a = alike_step w c in record { config = a.config ∙ k.config; sizes = ap length a.sizes ∙ k.sizes }

pub sized_start : (u : Endpoint) (g : Given) → length g.config ≡ 256 → length g.sizes ≡ 6 → Sized (start_of u g).world.endpoint
unfolding start_of
sized_start u g c z =
    answered_elim _ _ _ (λ (r : Outcome). Sized r.world.endpoint)
    (λ _. record { config = length-started (shape_of g.config) g.config ∙ c; sizes = z }) (λ _. record { config = refl; sizes = refl })
