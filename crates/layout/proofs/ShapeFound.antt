-- A shape read off the bytes, and its bounds. Assumes nothing.
use mathlib.Core.Path.{◌≡◌, refl, ap, ap₂, ◌∙◌}
use mathlib.Core.Bool.{Bool}
use mathlib.Core.List.{List, [], ◌∷◌}
use Prim.Native.Nat.{ℕ, ◌+◌, ◌*◌, ◌/◌, ◌%◌, ◌≤◌, ◌<◌}
use native.Mathlib.Nat.{div-one}
use native.Mathlib.Omega.{arith}
use lib.Dec.{eqb}
use Rattle.words.specs.Bits.{bit, field}
use Rattle.words.specs.Bytes.{byte, bit_at}
use Rattle.words.proofs.ByteLaws.{word32-lt}
use Rattle.model.specs.Capabilities.{capabilities, listed, with_id}
use Rattle.model.specs.Shape.{msi_at, msix_at, region_at, no_msi, no_msix, msi_of, msix_of, shape_in, shape_of}
use Rattle.model.specs.declared.MsiShape.{MsiShape}
use Rattle.model.specs.declared.MsixShape.{MsixShape}
use Rattle.model.specs.declared.Region.{Region}
use Rattle.model.specs.declared.Shape.{Shape}
use mathlib.Core.Option as m
use Rattle.std.specs.Prelude.{Option, unwrap_or}
use Rattle.words.specs.Lists.{keep}
use Rattle.layout.specs.Places.{found_of, listing, listing_in, listing_of}
use Rattle.layout.specs.Shapes.{msi_found, msix_found, Placed, Bounded}
use Rattle.layout.specs.declared.capability.Found.TheVariants.{Nowhere}
use Rattle.layout.specs.declared.capability.Listing.{Listing}
use Rattle.layout.proofs.Places.{first_place}

abbrev msi_shape : ℕ → ℕ → Bool → Bool → Bool → MsiShape
msi_shape at capable wide masks extended = record { at = at; capable = capable; wide = wide; masks = masks; extended = extended }

abbrev msix_shape : ℕ → ℕ → Region → Region → MsixShape
msix_shape at vectors table pending = record { at = at; vectors = vectors; table = table; pending = pending }

module _ (c : List ℕ) where
  -- ---- a capability from the two bytes of its control register

  pub msi_read : (a low high : ℕ) → low ≡ byte c (a + 2) → high ≡ byte c (a + 3)
      → msi_shape a (low / 2 % 8) (eqb (low / 128 % 2) 1) (eqb (high % 2) 1) (eqb (high / 2 % 2) 1) ≡ msi_at c a
  unfolding msi_at bit_at bit field
  msi_read a low high e f =
      let z : a + 2 + 0 ≡ a + 2 = omega arith in
      let s : a + 2 + 1 ≡ a + 3 = omega arith in
      rw (z, s, div-one, e, f)

  pub msix_read : (a low high : ℕ) (table pending : Region) → low ≡ byte c (a + 2) → high ≡ byte c (a + 3)
      → table ≡ region_at c (a + 4) → pending ≡ region_at c (a + 8)
      → msix_shape a (low + 256 * (high % 8) + 1) table pending ≡ msix_at c a
  unfolding msix_at field
  msix_read a low high table pending e f t p = rw (div-one, e, f, t, p)

  -- ---- the first capability of an ID counts

  pub msi-first : (l : List ℕ) → msi_found c (found_of l) ≡ msi_of c l
  unfolding found_of msi_of
  msi-first [] = refl
  msi-first (a ∷ []) = refl
  msi-first (a ∷ b ∷ l) = refl

  pub msix-first : (l : List ℕ) → msix_found c (found_of l) ≡ msix_of c l
  unfolding found_of msix_of
  msix-first [] = refl
  msix-first (a ∷ []) = refl
  msix-first (a ∷ b ∷ l) = refl

  -- what a listing is taken to say
  said : (w : m.Option (List ℕ)) → unwrap_or (listing_in c w) (listing Nowhere Nowhere) ≡ listing (found_of (with_id c (listed w) 0x05)) (found_of (with_id c (listed w) 0x11))
  unfolding listing_in listed with_id keep found_of
  said m.none = refl
  said (m.some l) = refl

  pub what_is_said : (o : Option Listing) (l : Listing) → o ≡ listing_of c → l ≡ unwrap_or o (listing Nowhere Nowhere)
      → l ≡ listing (found_of (with_id c (listed (capabilities c)) 0x05)) (found_of (with_id c (listed (capabilities c)) 0x11))
  unfolding listing_of
  what_is_said o l e f = f ∙ ap (λ (o : Option Listing). unwrap_or o (listing Nowhere Nowhere)) e ∙ said (capabilities c)

  pub shape_read : (o : Option Listing) (l : Listing) (m : MsiShape) (x : MsixShape) → o ≡ listing_of c → l ≡ unwrap_or o (listing Nowhere Nowhere)
      → m ≡ msi_found c l.msi → x ≡ msix_found c l.msix → ◌≡◌ {A = Shape} (record { msi = m; msix = x }) (shape_of c)
  unfolding shape_of shape_in
  shape_read o l m x e u f g =
      let places : List ℕ = listed (capabilities c) in
      let h = what_is_said o l e u in
      ap₂ (λ (m : MsiShape) (x : MsixShape). record { msi = m; msix = x })
      (f ∙ ap (λ (l : Listing). msi_found c l.msi) h ∙ msi-first (with_id c places 0x05))
      (g ∙ ap (λ (l : Listing). msix_found c l.msix) h ∙ msix-first (with_id c places 0x11))

-- ---- bounds

module _ (c : List ℕ) (bytes : (i : ℕ) → byte c i < 256) where
  -- what the walk found stands at a place
  pub found_places : (o : Option Listing) (l : Listing) → o ≡ listing_of c → l ≡ unwrap_or o (listing Nowhere Nowhere) → Placed l.msi × Placed l.msix
  found_places o l e u = rw (what_is_said c o l e u) (first_place c bytes 0x05, first_place c bytes 0x11)

  msi_bounds : (l : List ℕ) → Placed (found_of l) → ((msi_of c l).at < 253) × ((msi_of c l).capable < 8)
  unfolding found_of msi_of no_msi msi_at field
  msi_bounds [] p = (omega arith, omega arith)
  msi_bounds (a ∷ []) p = (p.below, omega arith)
  msi_bounds (a ∷ b ∷ l) p = (p.below, omega arith)

  msix_bounds : (l : List ℕ) → Placed (found_of l)
      → ((msix_of c l).at < 253) × ((msix_of c l).vectors ≤ 2048)
      × ((msix_of c l).table.bar < 8) × ((msix_of c l).table.at < 4294967296)
      × ((msix_of c l).pending.bar < 8) × ((msix_of c l).pending.at < 4294967296)
  unfolding found_of msix_of no_msix msix_at region_at field
  msix_bounds [] p = (omega arith, omega arith, omega arith, omega arith, omega arith, omega arith)
  msix_bounds (a ∷ []) p = (
    p.below,
    omega (arith, bytes (a + 2)),
    omega arith,
    omega (arith, word32-lt c (a + 4) bytes),
    omega arith,
    omega (arith, word32-lt c (a + 8) bytes),
  )
  msix_bounds (a ∷ b ∷ l) p = (
    p.below,
    omega (arith, bytes (a + 2)),
    omega arith,
    omega (arith, word32-lt c (a + 4) bytes),
    omega arith,
    omega (arith, word32-lt c (a + 8) bytes),
  )

  pub shape_bounded : Bounded (shape_of c)
  unfolding shape_of shape_in
  shape_bounded =
      let places : List ℕ = listed (capabilities c) in
      let m = msi_bounds (with_id c places 0x05) (first_place c bytes 0x05) in
      let x = msix_bounds (with_id c places 0x11) (first_place c bytes 0x11) in
      record {
        msi = m.0;
        capable = m.1;
        msix = x.0;
        vectors = x.1;
        table_bar = x.2;
        table_at = x.3;
        pending_bar = x.4;
        pending_at = x.5;
      }
