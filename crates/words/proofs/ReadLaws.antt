-- Bytes read from the highest down: q are still to be read, and r is the number of those behind them. Assumes nothing.
use mathlib.Core.Path.{◌≡◌, sym, ap, ◌∙◌}
use mathlib.Core.List.{List, [], ◌∷◌, ◌++◌}
use Prim.Native.Nat.{ℕ, suc, ◌+◌, ◌-◌, ◌*◌, ◌^◌, ◌≤◌, ◌<◌}
use native.Mathlib.Nat.{sub_self, pow-le-pow_right}
use native.Mathlib.Omega.{arith}
use lib.ListN.{length, take, drop, length-append, length-drop, get_or-append}
use lib.Seq.{length-take-le, get_or-take, get_or-drop, get_or-append_seam}
use Rattle.words.specs.Bytes.{byte, number, Bytes}
use Rattle.words.proofs.ByteLaws.{number_lt}
use Rattle.words.proofs.NumberLaws.{number_more}

pub record Reads (s : List ℕ) (at n : ℕ) (q : List ℕ) (r : ℕ) : Type 0 where
  pub room : length q ≤ n
  pub left : (k : ℕ) → k < length q → byte q k ≡ byte s (at + k)
  pub value : r ≡ number (byte s) (at + length q) (n - length q)

module _ (s : List ℕ) (at n : ℕ) where
  pub reads_start : at + n ≤ length s → Reads s at n (take n (drop at s)) 0
  unfolding number
  reads_start h =
      let d : length (take n (drop at s)) ≡ n = length-take-le n (drop at s) (rw length-drop (omega arith)) in
      record {
        room = omega (arith, d);
        left = λ k l. let j : k < n = omega (arith, l, d) in rw (get_or-take, get_or-drop);
        value = rw (d, sub_self);
      }

  module _ (q q' : List ℕ) (x r : ℕ) (e : q ≡ q' ++ x ∷ []) (g : Reads s at n q r) where
    long : length q ≡ suc (length q')
    long = ap length e ∙ length-append q' (x ∷ []) ∙ omega arith

    pub reads_small : Bytes s → n ≤ 8 → r < 256 ^ 7
    reads_small b h =
        let m = n - length q in
        let l : m ≤ 7 = omega (arith, long) in
        let p : 256 ^ m ≤ 256 ^ 7 = pow-le-pow_right (omega arith) l in
        omega (arith, g.value, number_lt (byte s) (at + length q) m b)

    pub reads_next : Reads s at n q' (r * 256 + x)
    reads_next =
        let m = length q' in
        let i : m < length q = omega (arith, long) in
        let last : x ≡ byte s (at + m) = sym (ap (λ (l : List ℕ). byte l m) e ∙ get_or-append_seam q' x [] 0) ∙ g.left m i in
        let a : n - m ≡ suc (n - length q) = omega (arith, long, g.room) in
        let b : suc (at + m) ≡ at + length q = omega (arith, long) in
        record {
          room = omega (arith, long, g.room);
          left = λ k l. sym (ap (λ (w : List ℕ). byte w k) e ∙ get_or-append q' (x ∷ []) 0 k l) ∙ g.left k (omega (arith, l, long));
          value = rw a (omega (arith, number_more (byte s) (at + m) (n - length q), ap (λ (j : ℕ). number (byte s) j (n - length q)) b, g.value, last));
        }

  pub reads_end : (q : List ℕ) (r : ℕ) → length q ≡ 0 → Reads s at n q r → r ≡ number (byte s) at n
  reads_end q r e g =
      let a : at + length q ≡ at = omega arith in
      let b : n - length q ≡ n = omega arith in
      rw (a, b) at (g.value)
