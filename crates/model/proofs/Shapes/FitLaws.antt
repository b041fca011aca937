-- A start that accepts, and so a sound card, has structures inside the 256 bytes, at most 2,048 vectors and buffers that fit. Assumes nothing.
use mathlib.Core.Path.{◌≡◌, refl}
use mathlib.Core.Bool.{Bool, true, false, not, cond, ◌&&◌}
use mathlib.Core.List.{List}
use Prim.Native.Nat.{ℕ, ◌+◌, ◌*◌, ◌/◌, ◌≤◌}
use native.Mathlib.Omega.{arith}
use lib.Dec.{eqb}
use lib.ListN.{length}
use borrow.Author.Tests.{eqb-true, ltb-false, not-false}
use Rattle.words.proofs.BoolLaws.{by_test}
use Rattle.model.specs.declared.Shape.{Shape}
use Rattle.model.specs.Capabilities.{capabilities, listed}
use Rattle.model.specs.Shape.{shape_of, shape_in, form_of, forms, msi_of, msi_at, no_msi, msi_present, msix_present, table_bytes, pending_bytes}
use Rattle.model.specs.World.{World}
use Rattle.model.specs.Start.{Given}
use Rattle.model.specs.Sound.{sound, shape, given_of}
use Rattle.model.specs.Fit.{FitShape, Fit}
use Rattle.model.proofs.Shapes.CapabilityLaws.{if_absent}
use Rattle.model.proofs.Shapes.PlaceLaws.{Placed, placed, fits-config}
use Rattle.model.proofs.Sound.SoundLaws.{Accepts, accepts, buffers_fit, is-sound}
use Rattle.model.proofs.Sound.StartLaws.{few-vectors}

-- the longest form has 24 bytes
pub size_small : (s : Shape) → (form_of s).size ≤ 24
unfolding form_of forms
size_small s = go s.msi.extended s.msi.masks s.msi.wide
  where
    go : (e m w : Bool) → (forms m w).size + cond (e && not m) 2 0 ≤ 24
    go true false false = omega arith
    go true false true = omega arith
    go true true false = omega arith
    go true true true = omega arith
    go false false false = omega arith
    go false false true = omega arith
    go false true false = omega arith
    go false true true = omega arith

-- without MSI its shape is all 0
msi_absent : (c : List ℕ) → msi_present (shape_of c) ≡ false → (shape_of c).msi.capable ≡ 0
unfolding msi_present shape_of shape_in msi_of msi_at no_msi
msi_absent c p = if_absent c 0x05 (λ l. (msi_of c l).at) (λ l. (msi_of c l).capable ≡ 0) (λ a r. refl) p refl

at_zero : (n : ℕ) → not (eqb n 0) ≡ false → n ≡ 0
at_zero n e = eqb-true n 0 (not-false (eqb n 0) e)

pub fit : (g : Given) → Accepts g → Fit (shape_of g.config) g.table_length g.pending_length
unfolding msi_present msix_present
fit g ok = record { shape = shape-fits; table = b.0; pending = b.1 }
  where
    s : Shape
    s = shape_of g.config

    places : List ℕ
    places = listed (capabilities g.config)

    k : Placed places s
    k = placed places s ok.structures

    b : (g.table_length ≡ table_bytes s) × (g.pending_length ≡ pending_bytes s)
    b = buffers_fit s g.table_length g.pending_length ok.buffers

    shape-fits : FitShape s
    shape-fits = record {
      msi =
          by_test (msi_present s) (λ p. fits-config places s.msi.at (form_of s).size (k.msi p))
          (λ p. omega (arith, at_zero s.msi.at p, size_small s));
      capable = by_test (msi_present s) (λ p. ltb-false 5 s.msi.capable (k.few p)) (λ p. omega (arith, msi_absent g.config p));
      msix = by_test (msix_present s) (λ p. fits-config places s.msix.at 12 (k.msix p)) (λ p. omega (arith, at_zero s.msix.at p));
      few = few-vectors g ok;
    }

-- of a sound card
pub sound_fit : (w : World) → sound w ≡ true → Fit (shape w.endpoint) (length w.endpoint.table) (length w.endpoint.pending)
sound_fit w s = fit (given_of w.endpoint) (accepts (given_of w.endpoint) (is-sound w s).endpoint.start)

-- ---- the lengths of the buffers

pub table-room : (s : Shape) (t p : ℕ) → Fit s t p → t ≡ 16 * s.msix.vectors
unfolding table_bytes
table-room s t p f = f.table

pub pending-room : (s : Shape) (t p : ℕ) → Fit s t p → p ≡ 8 * ((s.msix.vectors + 63) / 64)
unfolding pending_bytes
pending-room s t p f = f.pending
