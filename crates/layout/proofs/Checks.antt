-- Laws of the checks of a start. Assumes nothing.
use mathlib.Core.Path.{◌≡◌, refl, sym, ap, ap₂, ◌∙◌}
use mathlib.Core.Bool.{Bool, true, false, not, ◌||◌}
use mathlib.Core.List.{List, [], ◌∷◌}
use Prim.Native.Nat.{ℕ, ◌+◌, ◌%◌, ◌≤◌, ◌<◌}
use borrow.Author.Tests.{eq-eqb, ne_eqb, lt-ltb, le-ltb}
use lib.Dec.{ltb}
use lib.ListN.{length}
use Rattle.words.specs.Lists.{all, first_of}
use Rattle.model.specs.Capabilities.{capabilities, listed, broken, with_id}
use Rattle.model.specs.Shape.{form_of, msi_present, msix_present, shape_of}
use Rattle.model.specs.Start.{Given, bad_header, misplaced, bad_structures, bad_regions, bad_events, bad_requester, bad_buffers, twice, start_refusal}
use Rattle.model.specs.declared.Shape.{Shape}
use mathlib.Core.Option as m
use native.Mathlib.Omega.{arith}
use Rattle.std.specs.Prelude.{Option, Some, None}
use Rattle.words.specs.Lists.{keep}
use Rattle.layout.specs.Checks.{apart, bad_msi, bad_msix, bad_pair, again, listed_twice}
use Rattle.layout.specs.Places.{found_of, listing_in, listing_of}
use Rattle.layout.specs.declared.capability.Listing.{Listing}

module _ (places : List ℕ) (a n : ℕ) where
  pub runs_past : 256 < a + n → true ≡ misplaced places a n
  unfolding misplaced
  runs_past h = rw (lt-ltb _ _ h)

  pub by_headers : (b : Bool) → a + n ≤ 256 → all (apart a n) places ≡ b → not b ≡ misplaced places a n
  unfolding misplaced
  by_headers b h e = rw (le-ltb _ _ h, e)

module _ (s : Shape) where
  pub msi_absent : s.msi.at ≡ 0 → msi_present s ≡ false
  unfolding msi_present
  msi_absent e = rw (eq-eqb _ _ e)

  pub msi_there : (s.msi.at ≡ 0 → ⊥) → msi_present s ≡ true
  unfolding msi_present
  msi_there e = rw (ne_eqb _ _ e)

  pub msix_absent : s.msix.at ≡ 0 → msix_present s ≡ false
  unfolding msix_present
  msix_absent e = rw (eq-eqb _ _ e)

  pub msix_there : (s.msix.at ≡ 0 → ⊥) → msix_present s ≡ true
  unfolding msix_present
  msix_there e = rw (ne_eqb _ _ e)

-- check 13 from its three parts
pub parts : (places : List ℕ) (s : Shape) (n : ℕ) → n ≡ (form_of s).size → (bad_msi places s n || bad_msix places s || bad_pair s n) ≡ bad_structures places s
unfolding bad_msi bad_msix bad_pair bad_structures
parts places s n e = rw e

-- checks 11 and 12 from what the walk found
again-length : (l : List ℕ) → again (found_of l) ≡ ltb 1 (length l)
unfolding found_of
again-length [] = refl
again-length (a ∷ []) = refl
again-length (a ∷ b ∷ l) = sym (lt-ltb 1 (length (a ∷ b ∷ l)) (omega arith))

abbrev pub lost : Option Listing → Bool
lost None = true
lost (Some l) = false

abbrev pub twofold : Option Listing → Bool
twofold None = false
twofold (Some l) = listed_twice l

lost_in : (c : List ℕ) (w : m.Option (List ℕ)) → lost (listing_in c w) ≡ broken w
unfolding listing_in broken
lost_in c m.none = refl
lost_in c (m.some l) = refl

twofold_in : (c : List ℕ) (w : m.Option (List ℕ)) → twofold (listing_in c w) ≡ twice c (listed w)
unfolding listing_in twice listed with_id keep
twofold_in c m.none = refl
twofold_in c (m.some l) = ap₂ ◌||◌ (again-length (with_id c l 0x05)) (again-length (with_id c l 0x11))

pub broken-listed : (c : List ℕ) (o : Option Listing) → o ≡ listing_of c → lost o ≡ broken (capabilities c)
unfolding listing_of
broken-listed c o e = ap lost e ∙ lost_in c (capabilities c)

pub twice-listed : (c : List ℕ) (o : Option Listing) → o ≡ listing_of c → twofold o ≡ twice c (listed (capabilities c))
unfolding listing_of
twice-listed c o e = ap twofold e ∙ twofold_in c (capabilities c)

-- check 16
pub requester-good : (r : ℕ) → r ≤ 65535 → r % 8 ≡ 0 → bad_requester r ≡ false
unfolding bad_requester
requester-good r h e = rw (eq-eqb (r % 8) 0 e, le-ltb 65535 r h)

pub requester_bad : (r : ℕ) → (r % 8 ≡ 0 → ⊥) → bad_requester r ≡ true
unfolding bad_requester
requester_bad r e = rw (ne_eqb (r % 8) 0 e)

-- the rows of a start; checks 11 and 12 are made on what the walk found
abbrev rows_by : Given → Bool → Bool → Shape → List (ℕ × Bool)
rows_by g isBroken isTwice s =
    (10, bad_header g.config)
    ∷ (11, isBroken)
    ∷ (12, isTwice)
    ∷ (13, bad_structures (listed (capabilities g.config)) s)
    ∷ (14, bad_regions g.sizes s)
    ∷ (15, bad_events g.events s)
    ∷ (16, bad_requester g.requester)
    ∷ (17, bad_buffers s g.table_length g.pending_length)
    ∷ []

abbrev pub rows_of : Given → Option Listing → Shape → List (ℕ × Bool)
rows_of g o s = rows_by g (lost o) (twofold o) s

pub rows_are : (g : Given) (o : Option Listing) (s : Shape) → o ≡ listing_of g.config → s ≡ shape_of g.config → start_refusal g ≡ first_of (rows_of g o s)
unfolding start_refusal
rows_are g o s le se =
    ap (λ (s : Shape). first_of (rows_by g (broken (capabilities g.config)) (twice g.config (listed (capabilities g.config))) s)) (sym se)
    ∙ ap₂ (λ (b t : Bool). first_of (rows_by g b t s)) (sym (broken-listed g.config o le)) (sym (twice-listed g.config o le))
