-- The table of a started card: mask bits 1, all else 0. Assumes nothing.
use mathlib.Core.Path.{◌≡◌, refl, sym, ap, ◌∙◌}
use mathlib.Core.Bool.{true, cond}
use mathlib.Core.List.{List, ◌∷◌, ◌++◌}
use Prim.Native.Nat.{ℕ, zero, suc, ◌+◌, ◌-◌, ◌*◌, ◌%◌, ◌≤◌, ◌<◌}
use native.Mathlib.Omega.{arith}
use lib.Bits.{bit_and, and_zero_r}
use lib.Dec.{ltb, eqb}
use lib.ListN.{length, replicate}
use borrow.Author.Tests.{eq-eqb, ltb-true, ltb-false, eqb-true}
use Rattle.words.specs.Lists.{all, count, first_of}
use Rattle.words.specs.Bytes.{byte}
use Rattle.words.proofs.BoolLaws.{by_test}
use Rattle.words.proofs.ListLaws.{all-below, at_all}
use Rattle.model.specs.Registers.{entry_zero, started_table}
use Rattle.model.specs.Sound.{zero_bits}

pub length-table : (n : ℕ) → length (started_table n) ≡ 16 * n
unfolding started_table
length-table zero = refl
length-table (suc n) = let e : length (started_table n) ≡ 16 * n = length-table n in omega arith

-- one entry, and those behind it
entry-byte : (rest : List ℕ) (i : ℕ) → i < 16 → byte (replicate 12 0 ++ (1 ∷ 0 ∷ 0 ∷ 0 ∷ rest)) i ≡ cond (eqb i 12) 1 0
unfolding all count
entry-byte rest i h =
    eqb-true (byte (replicate 12 0 ++ (1 ∷ 0 ∷ 0 ∷ 0 ∷ rest)) i) (cond (eqb i 12) 1 0)
    (all-below (λ i. eqb (byte (replicate 12 0 ++ (1 ∷ 0 ∷ 0 ∷ 0 ∷ rest)) i) (cond (eqb i 12) 1 0)) 16 i refl h)

later_byte : (rest : List ℕ) (i j : ℕ) → i ≡ 16 + j → byte (replicate 12 0 ++ (1 ∷ 0 ∷ 0 ∷ 0 ∷ rest)) i ≡ byte rest j
later_byte rest i j e =
    let f : i ≡ suc (suc (suc (suc (suc (suc (suc (suc (suc (suc (suc (suc (suc (suc (suc (suc j))))))))))))))) = omega arith in
    rw f

-- the mask bits are 1, all else is 0
pub byte-table : (n i : ℕ) → i < 16 * n → byte (started_table n) i ≡ cond (eqb (i % 16) 12) 1 0
unfolding started_table
byte-table zero i h = absurd (omega arith)
byte-table (suc n) i h =
    by_test (ltb i 16)
    (λ e. let l : i < 16 = ltb-true i 16 e in let m : i % 16 ≡ i = omega arith in entry-byte (started_table n) i l ∙ ap (λ (k : ℕ). cond (eqb k 12) 1 0) (sym m))
    (λ e.
    let l : 16 ≤ i = ltb-false i 16 e in
    let m : (i - 16) % 16 ≡ i % 16 = omega arith in
    later_byte (started_table n) i (i - 16) (omega arith) ∙ byte-table n (i - 16) (omega arith) ∙ ap (λ (k : ℕ). cond (eqb k 12) 1 0) m)

zero-entry : (i : ℕ) → bit_and (entry_zero i) (cond (eqb (i % 16) 12) 1 0) ≡ 0
unfolding entry_zero first_of
zero-entry i =
    by_test (eqb (i % 16) 12)
    (λ e. rw (eqb-true (i % 16) 12 e))
    (λ e. rw e (and_zero_r (cond (eqb (i % 16) 0) 0x03 (cond (ltb (i % 16) 12) 0x00 0xff))))

pub zero-table : (n : ℕ) → zero_bits entry_zero (started_table n) ≡ true
unfolding zero_bits
zero-table n =
    at_all (λ i b. eqb (bit_and (entry_zero i) b) 0) (started_table n)
    λ k h. eq-eqb (bit_and (entry_zero k) (byte (started_table n) k)) 0 (ap (bit_and (entry_zero k)) (byte-table n k (omega (arith, length-table n))) ∙ zero-entry k)
