-- A write through byte masks, byte by byte. Assumes nothing.
use mathlib.Core.Path.{◌≡◌, refl, ap, ◌∙◌}
use mathlib.Core.Bool.{Bool, true, false, cond, ◌&&◌}
use mathlib.Core.List.{List, [], ◌∷◌}
use Prim.Native.Nat.{ℕ, zero, suc, ◌+◌, ◌-◌, ◌≤◌, ◌<◌}
use native.Mathlib.Omega.{arith}
use lib.Dec.{ltb, leb}
use lib.ListN.{length, set, length-set}
use lib.Seq.{get_or-set_same, get_or-set_other}
use borrow.Author.Tests.{ltb-true, ltb-false, leb-true, leb-false}
use Rattle.words.specs.Lists.{within}
use Rattle.words.specs.Bits.{merge, clear}
use Rattle.words.specs.Bytes.{byte, Bytes}
use Rattle.words.proofs.BitLaws.{clear-merge}
use Rattle.words.proofs.ByteLaws.{bytes-set}
use Rattle.words.proofs.BytesLaws.{merge-byte}
use Rattle.words.proofs.BoolLaws.{cond_elim, by_test}
use Rattle.model.specs.Registers.{written}

pub length-written : (mask : ℕ → ℕ) (l : List ℕ) (i : ℕ) (bs : List ℕ) → length (written mask l i bs) ≡ length l
unfolding written
length-written mask l i [] = refl
length-written mask l i (b ∷ bs) =
    length-written mask (set l i (merge (mask i) (byte l i) b)) (suc i) bs ∙ length-set l i (merge (mask i) (byte l i) b)

pub bytes-written : (mask : ℕ → ℕ) (l : List ℕ) (i : ℕ) (bs : List ℕ) → Bytes l → Bytes bs → Bytes (written mask l i bs)
unfolding written
bytes-written mask l i [] b d = b
bytes-written mask l i (x ∷ bs) b d =
    bytes-written mask (set l i (merge (mask i) (byte l i) x)) (suc i) bs
    (bytes-set l i (merge (mask i) (byte l i) x) b (merge-byte (mask i) (byte l i) x (b i) (d 0))) (λ k. d (suc k))

module _ (mask : ℕ → ℕ) where
  before : (l : List ℕ) (i : ℕ) (bs : List ℕ) (k : ℕ) → k < i → byte (written mask l i bs) k ≡ byte l k
  unfolding written
  before l i [] k h = refl
  before l i (b ∷ bs) k h =
      before (set l i (merge (mask i) (byte l i) b)) (suc i) bs k (omega arith)
      ∙ get_or-set_other l i k (merge (mask i) (byte l i) b) 0 (omega arith)

  behind : (l : List ℕ) (i : ℕ) (bs : List ℕ) (k : ℕ) → i + length bs ≤ k → byte (written mask l i bs) k ≡ byte l k
  unfolding written
  behind l i [] k h = refl
  behind l i (b ∷ bs) k h =
      behind (set l i (merge (mask i) (byte l i) b)) (suc i) bs k (omega arith)
      ∙ get_or-set_other l i k (merge (mask i) (byte l i) b) 0 (omega arith)

  reached : (l : List ℕ) (i : ℕ) (bs : List ℕ) (j : ℕ) → j < length bs → i + j < length l
      → byte (written mask l i bs) (i + j) ≡ merge (mask (i + j)) (byte l (i + j)) (byte bs j)
  unfolding written
  reached l i [] j h f = absurd (omega arith)
  reached l i (b ∷ bs) zero h f =
      let e : i + 0 ≡ i = omega arith in
      rw e (before (set l i (merge (mask i) (byte l i) b)) (suc i) bs i (omega arith)
      ∙ get_or-set_same l i (merge (mask i) (byte l i) b) 0 (omega arith))
  reached l i (b ∷ bs) (suc j) h f =
      let l' : List ℕ = set l i (merge (mask i) (byte l i) b) in
      let e : i + suc j ≡ suc i + j = omega arith in
      let n : length l' ≡ length l = length-set l i (merge (mask i) (byte l i) b) in
      let o : byte l' (suc i + j) ≡ byte l (suc i + j) = get_or-set_other l i (suc i + j) (merge (mask i) (byte l i) b) 0 (omega arith) in
      rw e (reached l' (suc i) bs j (omega arith) (omega arith) ∙ ap (λ (x : ℕ). merge (mask (suc i + j)) x (byte bs j)) o)

  -- byte k after a write of the bytes bs at place i
  pub byte-written : (l : List ℕ) (i : ℕ) (bs : List ℕ) (k : ℕ) → k < length l
      → byte (written mask l i bs) k ≡ cond (within i (length bs) k) (merge (mask k) (byte l k) (byte bs (k - i))) (byte l k)
  unfolding within
  byte-written l i bs k h = go (leb i k) (ltb k (i + length bs)) refl refl
    where
      go : (p q : Bool) → leb i k ≡ p → ltb k (i + length bs) ≡ q
          → byte (written mask l i bs) k ≡ cond (p && q) (merge (mask k) (byte l k) (byte bs (k - i))) (byte l k)
      go true true e e' =
          let ge : i ≤ k = leb-true i k e in
          let lt : k < i + length bs = ltb-true k (i + length bs) e' in
          let p : i + (k - i) ≡ k = omega arith in
          rw p at (reached l i bs (k - i) (omega arith) (omega arith))
      go true false e e' = behind l i bs k (ltb-false k (i + length bs) e')
      go false q e e' = before l i bs k (leb-false i k e)

  -- a write changes only bits of the mask
  pub clear-written : (l : List ℕ) (i : ℕ) (bs : List ℕ) (k : ℕ) → k < length l → clear (mask k) (byte (written mask l i bs) k) ≡ clear (mask k) (byte l k)
  clear-written l i bs k h =
      ap (clear (mask k)) (byte-written l i bs k h)
      ∙ cond_elim (λ (x : ℕ). clear (mask k) x ≡ clear (mask k) (byte l k)) (within i (length bs) k)
      (λ _. clear-merge (mask k) (byte l k) (byte bs (k - i))) (λ _. refl)

  -- a byte that the write does not reach
  pub outside-written : (l : List ℕ) (i : ℕ) (bs : List ℕ) (k : ℕ) → (i ≤ k → k < i + length bs → ⊥) → byte (written mask l i bs) k ≡ byte l k
  outside-written l i bs k n =
      by_test (leb i k)
      (λ e. by_test (ltb k (i + length bs)) (λ d. absurd (n (leb-true i k e) (ltb-true k (i + length bs) d))) (λ d. behind l i bs k (ltb-false k (i + length bs) d)))
      (λ e. before l i bs k (leb-false i k e))
