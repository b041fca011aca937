-- A loop that clears the bits of masked entries, one for each set bit of a word. Assumes nothing.
use mathlib.Core.Path.{◌≡◌, refl, sym, ap, ap₂, ◌∙◌, subst}
use mathlib.Core.Bool.{Bool, true, false, not, ◌&&◌, ◌||◌, and-true, false≢true}
use mathlib.Core.List.{List, [], ◌∷◌, ◌++◌, append_assoc, append-nil}
use Prim.Native.Nat.{ℕ, ◌+◌, ◌-◌, ◌*◌, ◌%◌, ◌^◌, ◌≤◌, ◌<◌, zero-le}
use native.Mathlib.Nat.{add-zero}
use native.Mathlib.Omega.{arith}
use lib.Dec.{eqb, ltb}
use lib.Bits.{bit_and}
use lib.Pow.{shl_exact, shl_lt, pow_mono}
use borrow.Author.Tests.{eqb-true, ltb-true, ltb-false}
use Rattle.words.specs.Lists.{count, member}
use Rattle.words.specs.Bits.{bit, clear}
use Rattle.words.specs.Bytes.{byte, bit_at}
use Rattle.words.proofs.BoolLaws.{by_test}
use Rattle.words.proofs.BitLaws.{bit-zero, bit_digit, bit-clear, bit_above, clear-le, and-not}
use Rattle.words.proofs.ListLaws.{count-member, member-keep}
use Rattle.release.specs.Owed.{set_bits, Unmasked}
use Rattle.model.specs.Vectors.{entry_masked}

-- the mask bit of an entry is the lowest bit of its byte 12
pub mask-byte : (table : List ℕ) (v : ℕ) → entry_masked table v ≡ eqb (byte table (16 * v + 12) % 2) 1
unfolding entry_masked bit_at
mask-byte table v = ap (λ (i : ℕ). bit (byte table i) 0) (add-zero (16 * v + 12)) ∙ bit-zero (byte table (16 * v + 12))

-- a number behind the others
member_last : (j v : ℕ) (l : List ℕ) → member j (l ++ v ∷ []) ≡ (member j l || eqb j v)
unfolding member
member_last j v [] = alone (eqb j v)
  where
    alone : (b : Bool) → (b || false) ≡ b
    alone true = refl
    alone false = refl
member_last j v (x ∷ l) = ap (λ (b : Bool). eqb j x || b) (member_last j v l) ∙ three (eqb j x) (member j l) (eqb j v)
  where
    three : (a b c : Bool) → (a || (b || c)) ≡ ((a || b) || c)
    three true b c = refl
    three false b c = refl

module _ (table : List ℕ) (base w : ℕ) where
  -- the numbers `todo` are left; r has the set bits of w, but for those of masked entries among the others
  pub record Masking (todo : List ℕ) (r : ℕ) : Type 0 where
    pub done : List ℕ
    pub parts : set_bits 64 w ≡ done ++ todo
    pub small : r < 2 ^ 64
    pub bits : (j : ℕ) → bit r j ≡ (bit w j && not (member j done && entry_masked table (base + j)))

  pub masking_all : w < 2 ^ 64 → Masking (set_bits 64 w) w
  unfolding member
  masking_all u = record { done = []; parts = refl; small = u; bits = λ j. sym (and-true (bit w j)) }

  module _ (todo rest : List ℕ) (r v m : ℕ) (g : Masking todo r) (q : todo ≡ v ∷ rest) (h : v < 64) (e : m ≡ byte table (16 * (base + v) + 12) % 2) where
    digit : eqb m 1 ≡ entry_masked table (base + v)
    digit = ap (λ (x : ℕ). eqb x 1) e ∙ sym (mask-byte table (base + v))

    here : (a b c : Bool) → ((a && not (b && c)) && not (true && c)) ≡ (a && not ((b || true) && c))
    here false b c = refl
    here true true true = refl
    here true true false = refl
    here true false true = refl
    here true false false = refl

    other : (a b c d : Bool) → ((a && not (b && c)) && not (false && d)) ≡ (a && not ((b || false) && c))
    other false b c d = refl
    other true true c d = and-true (not c)
    other true false c d = refl

    at : (j : ℕ) (b : Bool) → eqb j v ≡ b
        → ((bit w j && not (member j g.done && entry_masked table (base + j))) && not (b && entry_masked table (base + v)))
        ≡ (bit w j && not ((member j g.done || b) && entry_masked table (base + j)))
    at j false p = other (bit w j) (member j g.done) (entry_masked table (base + j)) (entry_masked table (base + v))
    at j true p = rw (eqb-true j v p) (here (bit w v) (member v g.done) (entry_masked table (base + v)))

    cleared : Masking rest (clear (m * 2 ^ v) r)
    cleared = record {
      done = g.done ++ v ∷ [];
      parts = g.parts ∙ ap (λ (l : List ℕ). g.done ++ l) q ∙ sym (append_assoc g.done (v ∷ []) rest);
      small = omega (arith, g.small, clear-le (m * 2 ^ v) r);
      bits = λ j.
          bit-clear (m * 2 ^ v) r j
          ∙ ap₂ (λ (a b : Bool). a && not b) (g.bits j) (bit_digit m v j (omega (arith, e)) ∙ ap (λ (b : Bool). eqb j v && b) digit)
          ∙ at j (eqb j v) refl
          ∙ ap (λ (b : Bool). bit w j && not (b && entry_masked table (base + j))) (sym (member_last j v g.done));
    }

    -- the digit shifted to bit v, and its complement, in 64 bits
    pub masking-next : Masking rest (bit_and ((2 ^ 64 - 1) - (m * 2 ^ v) % 2 ^ 64) r)
    masking-next =
        let d : m < 2 ^ 1 = omega (arith, e) in
        let s : (m * 2 ^ v) % 2 ^ 64 ≡ m * 2 ^ v = shl_exact 1 v 64 d (omega (arith, h)) in
        let p : 2 ^ (1 + v) ≤ 2 ^ 64 = pow_mono {i = 1 + v} {j = 64} (omega (arith, h)) in
        let k : m * 2 ^ v < 2 ^ 64 = omega (arith, shl_lt 1 v d) in
        subst (Masking rest)
        (sym (ap (λ (x : ℕ). bit_and ((2 ^ 64 - 1) - x) r) s ∙ and-not 64 (m * 2 ^ v) r k g.small)) cleared

  -- nothing is left
  pub masking_done : (todo : List ℕ) (r : ℕ) → w < 2 ^ 64 → todo ≡ [] → Masking todo r → Unmasked table base w r
  masking_done todo r u e g j = g.bits j ∙ go (bit w j) refl
    where
      d : set_bits 64 w ≡ g.done
      d = g.parts ∙ ap (λ (l : List ℕ). g.done ++ l) e ∙ append-nil g.done

      go : (b : Bool) → bit w j ≡ b → (bit w j && not (member j g.done && entry_masked table (base + j))) ≡ (bit w j && not (entry_masked table (base + j)))
      go false p = rw p refl
      go true p =
          let l : j < 64 =
          by_test (ltb j 64) (λ t. ltb-true j 64 t) (λ t. absurd (false≢true (sym (bit_above 64 w j u (ltb-false j 64 t)) ∙ p))) in
          let c : member j g.done ≡ true =
          ap (member j) (sym d) ∙ member-keep (bit w) (count 0 64) j ∙ rw p (count-member 0 64 j zero-le l) in
          rw c refl
