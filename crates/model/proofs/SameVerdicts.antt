-- Request [6], "in refusal 13 and soundness too": with bit 9 a structure has two bytes more, and starts, soundness and restores judge every card as before.
-- Capabilities stand at multiples of 4, so no header and no structure begins in these bytes, nor does the configuration end there; no bit of them is
-- stored as 0. Assumes nothing.
use mathlib.Core.Path.{◌≡◌, refl, ap}
use mathlib.Core.Bool.{Bool, true, false, not, cond, ◌&&◌, ◌||◌, and-false, false≢true}
use mathlib.Core.List.{List, [], ◌∷◌}
use Prim.Native.Nat.{ℕ, ◌+◌, ◌-◌, ◌%◌, ◌≤◌, ◌<◌}
use native.Mathlib.Omega.{arith}
use lib.Dec.{ltb, eqb}
use borrow.Author.Tests.{lt-ltb, le-ltb, ltb-true, ne_eqb}
use Rattle.words.specs.Lists.{all, within, first_of, overlap}
use Rattle.words.proofs.BoolLaws.{same_test, by_test, cond_elim, not-between}
use Rattle.words.proofs.ListLaws.{Holds, holds_head, holds_tail, within-true, true-within}
use Rattle.model.specs.declared.Shape.{Shape}
use Rattle.model.specs.Capabilities.{capabilities, listed}
use Rattle.model.specs.Shape.{form_of, forms, shape_of, msi_present}
use Rattle.model.specs.Registers.{header_zero, msi_zero, in_mask, in_pending_register, in_msi, stored_zero}
use Rattle.model.specs.World.{World}
use Rattle.model.specs.Start.{Given, misplaced, bad_structures, start_refusal}
use Rattle.model.specs.Sound.{given_of, shape, sound_endpoint, sound}
use Rattle.model.specs.Image.{world_in, is_saved, restore_refusal}
use Rattle.model.specs.Data16.{form_of16, in_msi16, stored_zero16, bad_structures16, start_refusal16, sound_endpoint16, sound16, is_saved16, restore_refusal16}
use Rattle.model.proofs.Shapes.PlaceLaws.{size_large}
use Rattle.model.proofs.Shapes.CapabilityLaws.{capabilities-aligned}
use Rattle.model.proofs.Shapes.AlignedLaws.{msi-aligned, msix-aligned}

-- ---- refusal 13

same_bound : (o x y : ℕ) → (o < x → o < y) → (o < y → o < x) → ltb o x ≡ ltb o y
same_bound o x y f g = same_test (ltb o x) (ltb o y) (λ e. lt-ltb o y (f (ltb-true o x e))) (λ e. lt-ltb o x (g (ltb-true o y e)))

-- MSI at a multiple of 4 reaches the same multiples of 4
same_reach : (s : Shape) (a o : ℕ) → a % 4 ≡ 0 → o % 4 ≡ 0 → ltb o (a + (form_of s).size) ≡ ltb o (a + (form_of16 s).size)
unfolding form_of form_of16 forms
same_reach s a o h k = go s.msi.extended s.msi.masks s.msi.wide
  where
    go : (e m w : Bool) → ltb o (a + ((forms m w).size + cond (e && not m) 2 0)) ≡ ltb o (a + (forms m w).size)
    go true false false = same_bound o (a + 12) (a + 10) (λ l. omega arith) (λ l. omega arith)
    go true false true = same_bound o (a + 16) (a + 14) (λ l. omega arith) (λ l. omega arith)
    go true true false = refl
    go true true true = refl
    go false false false = refl
    go false false true = refl
    go false true false = refl
    go false true true = refl

all_same : (f g : ℕ → Bool) (l : List ℕ) → Holds (λ a. f a ≡ g a) l → all f l ≡ all g l
unfolding all
all_same f g [] h = refl
all_same f g (x ∷ l) h = λ i. holds_head (λ a. f a ≡ g a) x l h i && all_same f g l (holds_tail (λ a. f a ≡ g a) x l h) i

same-misplaced : (places : List ℕ) (s : Shape) (a : ℕ) → a % 4 ≡ 0 → Holds (λ o. o % 4 ≡ 0) places
    → misplaced places a (form_of s).size ≡ misplaced places a (form_of16 s).size
unfolding misplaced overlap
same-misplaced places s a h k =
    λ i.
    same_reach s a 256 h refl i
    || not (all_same _ _ places (λ o m. ap (λ (b : Bool). eqb o a || not (b && ltb a (o + 2))) (same_reach s a o h (k o m))) i)

-- a structure reaches the other one as before
same-overlap : (s : Shape) (a b : ℕ) → a % 4 ≡ 0 → b % 4 ≡ 0 → overlap a (form_of s).size b 12 ≡ overlap a (form_of16 s).size b 12
unfolding overlap
same-overlap s a b h k = ap (λ (t : Bool). ltb a (b + 12) && t) (same_reach s a b h k)

same-structures : (places : List ℕ) (s : Shape) → s.msi.at % 4 ≡ 0 → s.msix.at % 4 ≡ 0 → Holds (λ o. o % 4 ≡ 0) places
    → bad_structures places s ≡ bad_structures16 places s
unfolding bad_structures bad_structures16
same-structures places s h j k = rw (same-misplaced places s s.msi.at h k, same-overlap s s.msi.at s.msix.at h j)

-- every start is refused as before, and with the same number
pub start_as_before : (g : Given) → start_refusal g ≡ start_refusal16 g
unfolding start_refusal start_refusal16
start_as_before g =
    let c : List ℕ = g.config in
    rw (same-structures (listed (capabilities c)) (shape_of c) (msi-aligned c) (msix-aligned c) (capabilities-aligned c))

-- ---- soundness

-- the unmasked forms grow by two bytes at most
more_bytes : (s : Shape) → ((form_of16 s).size ≤ (form_of s).size) × ((form_of s).size ≤ (form_of16 s).size + 2)
unfolding form_of form_of16
more_bytes s =
    let n : ℕ = (forms s.msi.masks s.msi.wide).size in
    cond_elim (λ k. (n ≤ n + k) × (n + k ≤ n + 2)) (s.msi.extended && not s.msi.masks) (λ _. (omega arith, omega arith)) (λ _. (omega arith, omega arith))

masked-bytes : (s : Shape) → s.msi.masks ≡ true → (form_of s).size ≡ (form_of16 s).size
unfolding form_of form_of16
masked-bytes s e = rw (e, and-false s.msi.extended) (omega arith)

-- no bit of an unmasked form from byte 8 on is stored as 0
none-behind : (s : Shape) (k : ℕ) → s.msi.masks ≡ false → 8 ≤ k → msi_zero s k ≡ 0
unfolding msi_zero in_mask in_pending_register first_of
none-behind s k e h = rw (ne_eqb k 4 (omega arith), le-ltb k 8 h, e)

-- a bit of MSI's that is stored as 0 stands in the bytes as they were
zero_before : (s : Shape) (i : ℕ) → within s.msi.at (form_of s).size i ≡ true → within s.msi.at (form_of16 s).size i ≡ false → msi_zero s (i - s.msi.at) ≡ 0
unfolding within
zero_before s i e f =
    let w = within-true s.msi.at (form_of s).size i e in
    let l : s.msi.at + (form_of16 s).size ≤ i = not-between s.msi.at (s.msi.at + (form_of16 s).size) i f w.0 in
    by_test s.msi.masks (λ m. absurd (omega (arith, masked-bytes s m)))
    (λ m. none-behind s (i - s.msi.at) m (omega (arith, size_large s, (more_bytes s).1)))

still_within : (s : Shape) (i : ℕ) → within s.msi.at (form_of16 s).size i ≡ true → within s.msi.at (form_of s).size i ≡ true
still_within s i e =
    let w = within-true s.msi.at (form_of16 s).size i e in
    true-within s.msi.at (form_of s).size i w.0 (omega (arith, (more_bytes s).0))

pub same-zero : (s : Shape) (i : ℕ) → stored_zero s i ≡ stored_zero16 s i
unfolding stored_zero stored_zero16 in_msi in_msi16
same-zero s i =
    ap (cond (ltb i 64) (header_zero i)) (go (msi_present s) (within s.msi.at (form_of s).size i) (within s.msi.at (form_of16 s).size i) (zero_before s i) (still_within s i))
  where
    z : ℕ
    z = msi_zero s (i - s.msi.at)

    go : (p x y : Bool) → (x ≡ true → y ≡ false → z ≡ 0) → (y ≡ true → x ≡ true) → cond (p && x) z 0 ≡ cond (p && y) z 0
    go true true true f g = refl
    go true true false f g = f refl refl
    go true false true f g = absurd (false≢true (g refl))
    go true false false f g = refl
    go false x y f g = refl

-- a card is sound exactly if it was
pub sound_as_before : (w : World) → sound w ≡ sound16 w
unfolding sound sound16 sound_endpoint sound_endpoint16
sound_as_before w =
    let z : stored_zero (shape w.endpoint) ≡ stored_zero16 (shape w.endpoint) = λ i k. same-zero (shape w.endpoint) k i in
    rw (start_as_before (given_of w.endpoint), z)

-- ---- saved images

-- every restore is refused as before, and with the same number
pub restore_as_before : (l : List ℕ) (table_length pending_length : ℕ) → restore_refusal l table_length pending_length ≡ restore_refusal16 l table_length pending_length
unfolding restore_refusal restore_refusal16 is_saved is_saved16
restore_as_before l table_length pending_length = rw (sound_as_before (world_in l))
