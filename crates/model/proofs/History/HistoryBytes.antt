-- Bytes by a past: what a reset, a write and any other call add to it. Assumes nothing.
use mathlib.Core.Path.{◌≡◌, refl, sym, ap, ◌∙◌, fun_ext}
use mathlib.Core.Bool.{Bool, true, false, cond}
use mathlib.Core.List.{List, [], ◌∷◌}
use mathlib.Core.Option.{Option, none, some, get_or}
use Prim.Native.Nat.{ℕ, ◌-◌, ◌<◌}
use native.Mathlib.Omega.{arith}
use lib.ListN.{length}
use lib.Seq.{ext_get_or}
use Rattle.words.specs.Lists.{within, each_at}
use Rattle.words.specs.Bits.{bit, merge}
use Rattle.words.specs.Bytes.{byte, bytes_of}
use Rattle.words.proofs.BitLaws.{bits_ext, bit-merge, merge-merge}
use Rattle.words.proofs.ByteLaws.{length-bytes_of}
use Rattle.words.proofs.ListLaws.{length_each, byte_each}
use Rattle.model.specs.declared.Shape.{Shape}
use Rattle.model.specs.Registers.{written}
use Rattle.model.specs.History.{Entry, Past, Location, resets, access_byte, wrote, writable_at, latest, bytes_by}
use Rattle.model.proofs.Registers.WriteLaws.{length-written, byte-written}

merge-same : (m d : ℕ) → merge m d d ≡ d
merge-same m d = bits_ext (merge m d d) d (λ k. bit-merge m d d k ∙ either (bit m k) (bit d k))
  where
    either : (a b : Bool) → cond a b b ≡ b
    either true b = refl
    either false b = refl

-- ---- what one more entry says of a location

latest-reset : (s : Shape) (x : Entry) (past : Past) (a : Location) (d : ℕ) → resets x ≡ true → latest s (x ∷ past) a d ≡ d
unfolding latest
latest-reset s x past a d e = rw e

latest_other : (s : Shape) (x : Entry) (past : Past) (a : Location) (d : ℕ) → resets x ≡ false
    → latest s (x ∷ past) a d ≡ get_or (wrote s x a) (latest s past a d)
unfolding latest
latest_other s x past a d e = rw e

-- ---- lists of bytes

module _ (s : Shape) (past : Past) (at : ℕ → Location) (l : List ℕ) where
  pub length_by : length (bytes_by s past at l) ≡ length l
  unfolding bytes_by
  length_by = length_each (λ i d. merge (writable_at s (at i)) d (latest s past (at i) d)) 0 l

  pub byte_by : (k : ℕ) → k < length l → byte (bytes_by s past at l) k ≡ merge (writable_at s (at k)) (byte l k) (latest s past (at k) (byte l k))
  unfolding bytes_by
  byte_by k h = byte_each (λ i d. merge (writable_at s (at i)) d (latest s past (at i) d)) l k h

  -- nothing said: the bytes as at a start
  quiet : ((a : Location) (d : ℕ) → latest s past a d ≡ d) → bytes_by s past at l ≡ l
  quiet e =
      ext_get_or 0 (bytes_by s past at l) l length_by
      λ k h.
      let j : k < length l = omega (arith, length_by) in
      byte_by k j ∙ ap (merge (writable_at s (at k)) (byte l k)) (e (at k) (byte l k)) ∙ merge-same (writable_at s (at k)) (byte l k)

pub by_none : (s : Shape) (at : ℕ → Location) (l : List ℕ) → bytes_by s [] at l ≡ l
unfolding latest
by_none s at l = quiet s [] at l (λ a d. refl)

module _ (s : Shape) (x : Entry) (past : Past) (at : ℕ → Location) (l : List ℕ) where
  pub by_reset : resets x ≡ true → bytes_by s (x ∷ past) at l ≡ l
  by_reset e = quiet s (x ∷ past) at l (λ a d. latest-reset s x past a d e)

  pub by_other : resets x ≡ false → ((i : ℕ) → wrote s x (at i) ≡ none) → bytes_by s (x ∷ past) at l ≡ bytes_by s past at l
  unfolding bytes_by
  by_other e n = ap (λ (f : ℕ → ℕ → ℕ). each_at (λ i d. merge (writable_at s (at i)) d (f i d)) 0 l) same
    where
      same : ◌≡◌ {A = ℕ → ℕ → ℕ} (λ i d. latest s (x ∷ past) (at i) d) (λ i d. latest s past (at i) d)
      same = fun_ext (λ i. fun_ext (λ d. latest_other s x past (at i) d e ∙ ap (λ (o : Option ℕ). get_or o (latest s past (at i) d)) (n i)))

  -- an accepted write of n bytes at o with value v is one more entry
  pub by_write : (o n v : ℕ) → resets x ≡ false → ((i : ℕ) → wrote s x (at i) ≡ access_byte o n v i)
      → written (λ i. writable_at s (at i)) (bytes_by s past at l) o (bytes_of n v) ≡ bytes_by s (x ∷ past) at l
  unfolding access_byte
  by_write o n v e w =
      ext_get_or 0 (written mask before o bs) (bytes_by s (x ∷ past) at l) (long ∙ sym (length_by s (x ∷ past) at l))
      λ k h.
      let j : k < length l = omega (arith, long) in
      byte-written mask before o bs k (omega (arith, length_by s past at l))
      ∙ ap (λ (i : ℕ). cond (within o i k) (merge (mask k) (byte before k) (byte bs (k - o))) (byte before k)) (length-bytes_of n v)
      ∙ ap (λ (b : ℕ). cond (within o n k) (merge (mask k) b (byte bs (k - o))) b) (byte_by s past at l k j)
      ∙ one (within o n k) (mask k) (byte l k) (latest s past (at k) (byte l k)) (byte bs (k - o))
      ∙ ap (λ (q : Option ℕ). merge (mask k) (byte l k) (get_or q (latest s past (at k) (byte l k)))) (sym (w k))
      ∙ ap (merge (mask k) (byte l k)) (sym (latest_other s x past (at k) (byte l k) e))
      ∙ sym (byte_by s (x ∷ past) at l k j)
    where
      mask : ℕ → ℕ
      mask = λ i. writable_at s (at i)

      before : List ℕ
      before = bytes_by s past at l

      bs : List ℕ
      bs = bytes_of n v

      long : length (written mask before o bs) ≡ length l
      long = length-written mask before o bs ∙ length_by s past at l

      one : (b : Bool) (m d y z : ℕ) → cond b (merge m (merge m d y) z) (merge m d y) ≡ merge m d (get_or (cond b (some z) none) y)
      one true m d y z = merge-merge m d y z
      one false m d y z = refl
