-- Where writable bits and bits stored as 0 stand, given that check 13 passed. Assumes nothing.
use mathlib.Core.Path.{◌≡◌, refl, sym, ap, ◌∙◌}
use mathlib.Core.Bool.{Bool, true, false, not, cond, ◌&&◌, ◌||◌, true≢false, false≢true}
use mathlib.Core.List.{List}
use Prim.Native.Nat.{ℕ, ◌+◌, ◌-◌, ◌≤◌, ◌<◌}
use native.Mathlib.Omega.{arith}
use lib.Dec.{ltb, eqb}
use borrow.Author.Tests.{lt-ltb, le-ltb, ltb-false, ne_eqb, eqb-true, not-false}
use Rattle.words.specs.Lists.{member, all, within, overlap}
use Rattle.words.proofs.BoolLaws.{both, neither, and_intro, second_false, by_test}
use Rattle.words.proofs.ListLaws.{all_holds, within-true, true-within}
use Rattle.model.specs.declared.Shape.{Shape}
use Rattle.model.specs.Shape.{form_of, forms, msi_present, msix_present}
use Rattle.model.specs.Registers.{writable, stored_zero, msi_writable, msi_zero, msix_writable, in_msi, in_msix}
use Rattle.model.specs.Start.{misplaced, bad_structures}

-- ---- what check 13 says

pub record Placed (places : List ℕ) (s : Shape) : Type 0 where
  pub few : msi_present s ≡ true → ltb 5 s.msi.capable ≡ false
  pub msi : msi_present s ≡ true → misplaced places s.msi.at (form_of s).size ≡ false
  pub msix : msix_present s ≡ true → misplaced places s.msix.at 12 ≡ false
  pub apart : msi_present s ≡ true → msix_present s ≡ true → overlap s.msi.at (form_of s).size s.msix.at 12 ≡ false

pub placed : (places : List ℕ) (s : Shape) → bad_structures places s ≡ false → Placed places s
unfolding bad_structures
placed places s e =
    let n : ℕ = (form_of s).size in
    let x : Bool = ltb 5 s.msi.capable || misplaced places s.msi.at n in
    let y : Bool = misplaced places s.msix.at 12 in
    let z : Bool = overlap s.msi.at n s.msix.at 12 in
    let f = neither ((msi_present s && x) || (msix_present s && y)) (msi_present s && msix_present s && z) e in
    let g = neither (msi_present s && x) (msix_present s && y) f.0 in
    let m : msi_present s ≡ true → (ltb 5 s.msi.capable ≡ false) × (misplaced places s.msi.at n ≡ false) =
    λ h. neither (ltb 5 s.msi.capable) (misplaced places s.msi.at n) (second_false (msi_present s) x h g.0) in
    record {
      few = λ h. (m h).0;
      msi = λ h. (m h).1;
      msix = λ h. second_false (msix_present s) y h g.1;
      apart = λ h k. second_false (msix_present s) z k (rw h at f.1);
    }

-- a structure ends by byte FFh
pub fits-config : (places : List ℕ) (a n : ℕ) → misplaced places a n ≡ false → a + n ≤ 256
unfolding misplaced
fits-config places a n e =
    ltb-false 256 (a + n) (neither (ltb 256 (a + n)) (not (all (λ o. eqb o a || not (overlap o 2 a n)) places)) e).0

-- a listed header that begins in a structure of n bytes at a is the structure's own
own_header : (places : List ℕ) (a n o : ℕ) → misplaced places a n ≡ false → member o places ≡ true → a ≤ o + 1 → o < a + n → o ≡ a
unfolding misplaced overlap
own_header places a n o e m h j =
    let f : ℕ → Bool = λ o. eqb o a || not (overlap o 2 a n) in
    let t : f o ≡ true = all_holds f places (not-false (all f places) (neither (ltb 256 (a + n)) (not (all f places)) e).1) o m in
    eqb-true o a (left (eqb o a) (rw (lt-ltb o (a + n) j, lt-ltb a (o + 2) (omega arith)) at t))
  where
    left : (b : Bool) → (b || not (true && true)) ≡ true → b ≡ true
    left true e = refl
    left false e = absurd (false≢true e)

-- ---- the masks at a byte of a structure

high : (i : ℕ) → 64 ≤ i → ltb i 64 ≡ false
high i h = le-ltb i 64 h

pub size_large : (s : Shape) → 10 ≤ (form_of s).size
unfolding form_of forms
size_large s = let l : 10 ≤ (forms s.msi.masks s.msi.wide).size = go s.msi.masks s.msi.wide in omega arith
  where
    go : (m w : Bool) → 10 ≤ (forms m w).size
    go false false = omega arith
    go false true = omega arith
    go true false = omega arith
    go true true = omega arith

pub present_msi : (s : Shape) → 64 ≤ s.msi.at → msi_present s ≡ true
unfolding msi_present
present_msi s h = ap not (ne_eqb s.msi.at 0 (omega arith))

pub present_msix : (s : Shape) → 64 ≤ s.msix.at → msix_present s ≡ true
unfolding msix_present
present_msix s h = ap not (ne_eqb s.msix.at 0 (omega arith))

-- byte j of the MSI capability stands at i
pub in-msi : (s : Shape) (i j : ℕ) → 64 ≤ s.msi.at → i ≡ s.msi.at + j → j < (form_of s).size
    → (writable s i ≡ msi_writable s j) × (stored_zero s i ≡ msi_zero s j)
unfolding writable stored_zero in_msi
in-msi s i j h e l =
    let t : (msi_present s && within s.msi.at (form_of s).size i) ≡ true =
    and_intro (msi_present s) (within s.msi.at (form_of s).size i) (present_msi s h) (true-within s.msi.at (form_of s).size i (omega arith) (omega arith)) in
    let b : i - s.msi.at ≡ j = omega arith in
    (rw (high i (omega arith), t, b), rw (high i (omega arith), t, b))

-- byte j of the MSI-X capability stands at i, which MSI does not reach
in-msix : (s : Shape) (i j : ℕ) → 64 ≤ s.msix.at → i ≡ s.msix.at + j → j < 12 → in_msi s i ≡ false
    → (writable s i ≡ msix_writable j) × (stored_zero s i ≡ 0)
unfolding writable stored_zero in_msix
in-msix s i j h e l f =
    let t : (msix_present s && within s.msix.at 12 i) ≡ true =
    and_intro (msix_present s) (within s.msix.at 12 i) (present_msix s h) (true-within s.msix.at 12 i (omega arith) (omega arith)) in
    let b : i - s.msix.at ≡ j = omega arith in
    (rw (high i (omega arith), f, t, b), rw (high i (omega arith), f))

-- MSI has no byte of the MSI-X capability
pub msix-apart : (places : List ℕ) (s : Shape) (i j : ℕ) → Placed places s → 64 ≤ s.msix.at → i ≡ s.msix.at + j → j < 12 → in_msi s i ≡ false
unfolding in_msi overlap
msix-apart places s i j p h e l = by_test (in_msi s i) bad (λ z. z)
  where
    bad : in_msi s i ≡ true → in_msi s i ≡ false
    bad z =
        let f = both (msi_present s) (within s.msi.at (form_of s).size i) z in
        let w = within-true s.msi.at (form_of s).size i f.1 in
        let v = p.apart f.0 (present_msix s h) in
        absurd (true≢false (sym (and_intro (ltb s.msi.at (s.msix.at + 12)) (ltb s.msix.at (s.msi.at + (form_of s).size))
        (lt-ltb s.msi.at (s.msix.at + 12) (omega arith)) (lt-ltb s.msix.at (s.msi.at + (form_of s).size) (omega arith))) ∙ v))

pub at_msix : (places : List ℕ) (s : Shape) (i j : ℕ) → Placed places s → 64 ≤ s.msix.at → i ≡ s.msix.at + j → j < 12
    → (writable s i ≡ msix_writable j) × (stored_zero s i ≡ 0)
at_msix places s i j p h e l = in-msix s i j h e l (msix-apart places s i j p h e l)

-- ---- a listed header has no writable bit and none stored as 0: byte k of it, 0 or 1

no_bits_lem : (s : Shape) (i : ℕ) → 64 ≤ i
    → (in_msi s i ≡ true → (msi_writable s (i - s.msi.at) ≡ 0) × (msi_zero s (i - s.msi.at) ≡ 0))
    → (in_msix s i ≡ true → msix_writable (i - s.msix.at) ≡ 0)
    → (writable s i ≡ 0) × (stored_zero s i ≡ 0)
unfolding writable stored_zero
no_bits_lem s i h f g = rw (high i h) (go (in_msi s i) (in_msix s i) f g)
  where
    go : (p q : Bool) → (p ≡ true → (msi_writable s (i - s.msi.at) ≡ 0) × (msi_zero s (i - s.msi.at) ≡ 0)) → (q ≡ true → msix_writable (i - s.msix.at) ≡ 0)
        → (cond p (msi_writable s (i - s.msi.at)) (cond q (msix_writable (i - s.msix.at)) 0) ≡ 0) × (cond p (msi_zero s (i - s.msi.at)) 0 ≡ 0)
    go true q f g = f refl
    go false true f g = (g refl, refl)
    go false false f g = (refl, refl)

pub listed-header : (places : List ℕ) (s : Shape) (o k : ℕ) → Placed places s → member o places ≡ true → 64 ≤ o → k ≤ 1
    → (msi_writable s k ≡ 0) × (msi_zero s k ≡ 0) × (msix_writable k ≡ 0) → (writable s (o + k) ≡ 0) × (stored_zero s (o + k) ≡ 0)
unfolding in_msi in_msix
listed-header places s o k p m h hk z = no_bits_lem s (o + k) (omega arith) of_msi of_msix
  where
    back : (a : ℕ) → o ≡ a → o + k - a ≡ k
    back a e = omega arith

    of_msi : in_msi s (o + k) ≡ true → (msi_writable s (o + k - s.msi.at) ≡ 0) × (msi_zero s (o + k - s.msi.at) ≡ 0)
    of_msi e =
        let f = both (msi_present s) (within s.msi.at (form_of s).size (o + k)) e in
        let w = within-true s.msi.at (form_of s).size (o + k) f.1 in
        let b : o + k - s.msi.at ≡ k = back s.msi.at (own_header places s.msi.at (form_of s).size o (p.msi f.0) m (omega arith) (omega arith)) in
        (rw b z.0, rw b z.1)

    of_msix : in_msix s (o + k) ≡ true → msix_writable (o + k - s.msix.at) ≡ 0
    of_msix e =
        let f = both (msix_present s) (within s.msix.at 12 (o + k)) e in
        let w = within-true s.msix.at 12 (o + k) f.1 in
        rw (back s.msix.at (own_header places s.msix.at 12 o (p.msix f.0) m (omega arith) (omega arith))) z.2
