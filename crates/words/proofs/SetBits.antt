-- A loop over the set bits of a number: w & (w - 1) is w without its lowest set bit. Assumes nothing.
use mathlib.Core.Path.{◌≡◌, sym, ap, ◌∙◌}
use mathlib.Core.Bool.{true, not, ◌&&◌}
use mathlib.Core.List.{◌∷◌}
use Prim.Native.Nat.{ℕ, zero, suc, ◌-◌, ◌*◌, ◌/◌, ◌%◌, ◌^◌, ◌≤◌, ◌<◌}
use native.Mathlib.Nat.{pow-suc}
use native.Mathlib.Omega.{arith}
use lib.Bits.{bit_and, and_step, and_self}
use lib.Dec.{eqb}
use borrow.Author.Tests.{eqb-true, eqb-false}
use Rattle.words.specs.Lists.{count, keep}
use Rattle.words.specs.Bits.{bit, clear_bit}
use Rattle.words.specs.Lowest.{Lowest}
use Rattle.words.proofs.BitLaws.{bit-zero, bit-suc, bit-cleared}
use Rattle.words.proofs.BoolLaws.{both}
use Rattle.words.proofs.LowestLaws.{lowest_within, lowest_rest, clear-set, clear_less, power_le}

half : (w v : ℕ) → Lowest w (suc v) → Lowest (w / 2) v
half w v l = record { set = sym (bit-suc w v) ∙ l.set; first = λ i h. sym (bit-suc w i) ∙ l.first (suc i) (omega arith) }

and_less : (w v : ℕ) → Lowest w v → bit_and w (w - 1) ≡ w - 2 ^ v
and_less w zero l =
    let o : w % 2 ≡ 1 = eqb-true (w % 2) 1 (sym (bit-zero w) ∙ l.set) in
    let e : (w - 1) / 2 ≡ w / 2 = omega arith in
    let s : bit_and (w / 2) ((w - 1) / 2) ≡ w / 2 = ap (bit_and (w / 2)) e ∙ and_self (w / 2) in
    and_step w (w - 1) ∙ rw s (omega arith)
and_less w (suc v) l =
    let p : 2 ^ suc v ≡ 2 ^ v * 2 = pow-suc 2 v in
    let o : w % 2 ≡ 1 → ⊥ = eqb-false (w % 2) 1 (sym (bit-zero w) ∙ l.first 0 (omega arith)) in
    let h : 2 ^ suc v ≤ w = power_le w (suc v) l.set in
    let z : w % 2 ≡ 0 = omega (arith, o) in
    let e : (w - 1) / 2 ≡ w / 2 - 1 = omega arith in
    let s : bit_and (w / 2) ((w - 1) / 2) ≡ w / 2 - 2 ^ v = ap (bit_and (w / 2)) e ∙ and_less (w / 2) v (half w v l) in
    and_step w (w - 1) ∙ rw s (omega arith)

-- what a turn at the lowest set bit v of a number w of k bits goes by
pub record Turn (k w v : ℕ) : Type 0 where
  pub within : v < k
  pub set : bit w v ≡ true
  pub next : bit_and w (w - 1) ≡ clear_bit w v
  pub less : bit_and w (w - 1) < w
  pub rest : keep (bit w) (count 0 k) ≡ v ∷ keep (bit (bit_and w (w - 1))) (count 0 k)

pub turn : (k w v : ℕ) → w < 2 ^ k → Lowest w v → Turn k w v
turn k w v u l =
    let e : bit_and w (w - 1) ≡ clear_bit w v = and_less w v l ∙ sym (clear-set w v l.set) in
    record {
      within = lowest_within k w v u l;
      set = l.set;
      next = e;
      less = rw e (clear_less w v l.set);
      rest = lowest_rest k w v u l ∙ ap (λ (x : ℕ). v ∷ keep (bit x) (count 0 k)) (sym e);
    }
