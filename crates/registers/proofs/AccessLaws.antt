-- What the functions of this crate ask, as a card that a start accepts and an access that is not refused give it. Assumes nothing.
use mathlib.Core.Path.{◌≡◌, refl}
use mathlib.Core.Bool.{Bool, true, false, not, ◌&&◌, ◌||◌, or_assoc, or-false}
use mathlib.Core.List.{List, [], ◌∷◌}
use Prim.Native.Nat.{ℕ, ◌+◌, ◌%◌, ◌≤◌}
use native.Mathlib.Omega.{arith}
use lib.Dec.{leb, ltb, eqb}
use borrow.Author.Tests.{eqb-true, leb-true, ltb-false, not-false}
use Rattle.words.specs.Lists.{all, member}
use Rattle.words.proofs.BoolLaws.{both, neither}
use Rattle.words.proofs.ListLaws.{all_holds, multiple_inside}
use Rattle.model.specs.declared.Shape.{Shape}
use Rattle.model.specs.Capabilities.{capabilities, listed, with_id}
use Rattle.model.specs.Shape.{shape_of, shape_in, msix_of, no_msix, msix_at, region_at}
use Rattle.model.specs.Registers.{in_table, in_pending}
use Rattle.model.specs.Calls.{bad_config, bad_bar}
use Rattle.registers.specs.Bounds.{Aligned}

pub aligned : (c : List ℕ) → Aligned (shape_of c)
unfolding shape_of shape_in msix_of no_msix msix_at region_at
aligned c = go (with_id c (listed (capabilities c)) 0x11)
  where
    go : (l : List ℕ) → Aligned (record { msi = (shape_of c).msi; msix = msix_of c l })
    go [] = record { table = refl; pending = refl }
    go (a ∷ l) = record { table = omega arith; pending = omega arith }

-- ---- accesses that are not refused

-- a width is one of a list of divisors of 8, all at most `top`
width : (top : ℕ) (l : List ℕ) → all (λ k. leb k top && eqb (8 % k) 0) l ≡ true → (n : ℕ) → member n l ≡ true → (n ≤ top) × (8 % n ≡ 0)
width top l e n m =
    let t = both (leb n top) (eqb (8 % n) 0) (all_holds (λ k. leb k top && eqb (8 % k) 0) l e n m) in
    (leb-true n top t.0, eqb-true (8 % n) 0 t.1)

-- n bytes from o on cross no multiple of 8
inside : (o n : ℕ) → 8 % n ≡ 0 → not (eqb (o % n) 0) ≡ false → o % 8 + n ≤ 8
inside o n d e = multiple_inside o n 8 (omega arith) d (eqb-true (o % n) 0 (not-false (eqb (o % n) 0) e))

pub config-access : (o n : ℕ) → bad_config o n ≡ false → (o + n ≤ 256) × (n ≤ 4)
unfolding bad_config all member
config-access o n e =
    let w : Bool = (eqb n 1 || eqb n 2) || eqb n 4 in
    let p = neither (not w || not (eqb (o % n) 0)) (ltb 255 o) e in
    let q = neither (not w) (not (eqb (o % n) 0)) p.0 in
    let m : member n (1 ∷ 2 ∷ 4 ∷ []) ≡ true = rw (or-false, ← or_assoc) (not-false w q.0) in
    let d = width 4 (1 ∷ 2 ∷ 4 ∷ []) refl n m in
    (omega (arith, ltb-false 255 o p.1, inside o n d.1 q.1), d.0)

pub bar-access : (s : Shape) (b o n : ℕ) → bad_bar s b o n ≡ false → (o % 8 + n ≤ 8) × ((in_table s b o || in_pending s b o) ≡ true)
unfolding bad_bar all member
bar-access s b o n e =
    let w : Bool = eqb n 4 || eqb n 8 in
    let i : Bool = in_table s b o || in_pending s b o in
    let p = neither ((ltb 5 b || not w) || not (eqb (o % n) 0)) (not i) e in
    let q = neither (ltb 5 b || not w) (not (eqb (o % n) 0)) p.0 in
    let m : member n (4 ∷ 8 ∷ []) ≡ true = rw or-false (not-false w (neither (ltb 5 b) (not w) q.0).1) in
    (inside o n (width 8 (4 ∷ 8 ∷ []) refl n m).1 q.1, not-false i p.1)
