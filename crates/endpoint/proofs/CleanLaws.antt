-- The soundness check of a function that a start accepts, by each way out. Assumes nothing.
use mathlib.Core.Path.{◌≡◌, sym, ◌∙◌}
use mathlib.Core.Bool.{Bool, true, false, not}
use mathlib.Core.List.{List}
use Prim.Native.Nat.{ℕ}
use lib.ListN.{length}
use borrow.Author.Tests.{ne_eqb, not-true, not-false}
use Rattle.model.specs.declared.Function.{Function}
use Rattle.model.specs.declared.Profile.{Profile}
use Rattle.model.specs.declared.Shape.{Shape}
use Rattle.model.specs.Shape.{shape_of}
use Rattle.model.specs.Registers.{stored_zero, entry_zero}
use Rattle.model.specs.World.{Endpoint, endpoint_of}
use Rattle.model.specs.Release.{owed_now}
use Rattle.model.specs.Start.{start_refusal}
use Rattle.model.specs.Sound.{given_of, shape, zero_bits, waits_below, is_empty, sound_endpoint}
use Rattle.model.specs.Fit.{Fit}
use Rattle.release.specs.Owed.{Lent}
use Rattle.release.proofs.OwedLaws.{lent}
use Rattle.model.proofs.Sound.SoundLaws.{accepts}
use Rattle.model.proofs.Sound.StartLaws.{msi-high}
use Rattle.model.proofs.Shapes.FitLaws.{fit}
use Rattle.model.proofs.Vectors.SettleLaws.{below}
use Rattle.model.proofs.Sound.SoundTests.{unsound_start, unsound_config, unsound_table, unsound_below, sound-owed}
use Rattle.registers.specs.Bounds.{MsiBounds}
use Rattle.vectors.specs.Given.{Profiled}
use Rattle.endpoint.specs.Parts.{profile_or_shape, Checked}

module _ (s : Shape) (u : Endpoint) (e : s ≡ shape u) (k : start_refusal (given_of u) ≡ 0) where
  pub start_fit : Fit s (length u.table) (length u.pending)
  start_fit = rw (sym e) at (fit (given_of u) (accepts (given_of u) k))

  pub start_bounds : MsiBounds s
  start_bounds = record { ends = start_fit.shape.msi; capable = start_fit.shape.capable; high = rw e (msi-high u.function.config) }

module _ (s : Shape) (u : Endpoint) (c t w : Bool) (ec : c ≡ zero_bits (stored_zero s) u.function.config) (et : t ≡ zero_bits entry_zero u.table) (ew : w ≡ waits_below s u) where
  pub by_owed : (r : Bool) → start_refusal (given_of u) ≡ 0 → not c ≡ false → not t ≡ false → not w ≡ false → r ≡ is_empty (owed_now s u) → r ≡ sound_endpoint s u
  by_owed r k nc nt nw q = q ∙ sym (sound-owed s u k (sym ec ∙ not-false c nc) (sym et ∙ not-false t nt) (sym ew ∙ not-false w nw))

pub bad-config : (s : Shape) (u : Endpoint) (c : Bool) → c ≡ zero_bits (stored_zero s) u.function.config → not c ≡ true → false ≡ sound_endpoint s u
bad-config s u c e n = sym (unsound_config s u (sym e ∙ not-true c n))

pub bad_table : (s : Shape) (u : Endpoint) (t : Bool) → t ≡ zero_bits entry_zero u.table → not t ≡ true → false ≡ sound_endpoint s u
bad_table s u t e n = sym (unsound_table s u (sym e ∙ not-true t n))

pub bad_below : (s : Shape) (u : Endpoint) (w : Bool) → w ≡ waits_below s u → not w ≡ true → false ≡ sound_endpoint s u
bad_below s u w e n = sym (unsound_below s u (sym e ∙ not-true w n))

pub bad_start : (s : Shape) (u : Endpoint) (n : ℕ) → n ≡ start_refusal (given_of u) → (n ≡ 0 → ⊥) → false ≡ sound_endpoint s u
bad_start s u n e z = sym (unsound_start s u n (sym e) (ne_eqb n 0 z))

pub with-shape : (s t : Shape) (u : Endpoint) (r : Bool) → s ≡ t → r ≡ sound_endpoint s u → r ≡ sound_endpoint t u
with-shape s t u r e k = rw (← e) k

-- what is told of a function that a start accepts
pub verdict : (f : Function) (t p : List ℕ) (k : Profile) → k.shape ≡ shape_of f.config → Profiled f.config k
    → (b : Bool) → b ≡ sound_endpoint (shape_of f.config) (endpoint_of f t p) → Checked f t p (profile_or_shape b k)
verdict f t p k e g true q = (sym q, e, g)
verdict f t p k e g false q = (sym q, e)

-- no waiting bit beyond the card's vectors
pub all_lent : (s : Shape) (u : Endpoint) (w : Bool) → Fit s (length u.table) (length u.pending) → w ≡ waits_below s u → not w ≡ false → Lent u.table u.pending
all_lent s u w f e n = lent s u f (below s u (sym e ∙ not-false w n))
