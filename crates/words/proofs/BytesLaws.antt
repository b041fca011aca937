-- What makes a list of bytes, and what keeps one. Assumes nothing.
use mathlib.Core.List.{List, [], ◌∷◌, ◌++◌}
use Prim.Native.Nat.{ℕ, zero, suc, ◌<◌}
use native.Mathlib.Nat.{lt_of_le_of_lt}
use native.Mathlib.Omega.{arith}
use lib.Bits.{bit_and, and_le_r, or_lt}
use lib.ListN.{take, replicate}
use Rattle.words.specs.Lists.{join, each_at}
use Rattle.words.specs.Bits.{merge, clear}
use Rattle.words.specs.Bytes.{byte, part, Below, empty, more, Bytes}
use Rattle.words.proofs.BitLaws.{clear-le}
use Rattle.words.proofs.ByteLaws.{drop-bytes}

pub bytes-none : Bytes []
bytes-none i = omega arith

pub bytes-more : (x : ℕ) (l : List ℕ) → x < 256 → Bytes l → Bytes (x ∷ l)
bytes-more x l h b zero = h
bytes-more x l h b (suc i) = b i

pub bytes-replicate : (n x : ℕ) → x < 256 → Bytes (replicate n x)
bytes-replicate zero x h = bytes-none
bytes-replicate (suc n) x h = bytes-more x (replicate n x) h (bytes-replicate n x h)

pub below-replicate : {k : ℕ} (n x : ℕ) → x < k → Below k (replicate n x)
below-replicate zero x h = empty
below-replicate (suc n) x h = more h (below-replicate n x h)

pub bytes-append : (p q : List ℕ) → Bytes p → Bytes q → Bytes (p ++ q)
bytes-append [] q b d = d
bytes-append (x ∷ p) q b d = bytes-more x (p ++ q) (b 0) (bytes-append p q (λ i. b (suc i)) d)

bytes_take : (n : ℕ) (l : List ℕ) → Bytes l → Bytes (take n l)
bytes_take zero l b = bytes-none
bytes_take (suc n) [] b = bytes-none
bytes_take (suc n) (x ∷ l) b = bytes-more x (take n l) (b 0) (bytes_take n l (λ i. b (suc i)))

pub bytes-part : (at n : ℕ) (l : List ℕ) → Bytes l → Bytes (part at n l)
unfolding part
bytes-part at n l b = bytes_take n _ (drop-bytes at l b)

pub bytes-join : (f : ℕ → List ℕ) → ((x : ℕ) → Bytes (f x)) → (l : List ℕ) → Bytes (join f l)
unfolding join
bytes-join f b [] = bytes-none
bytes-join f b (x ∷ l) = bytes-append (f x) (join f l) (b x) (bytes-join f b l)

-- each byte changed by itself
pub bytes_each : (f : ℕ → ℕ → ℕ) → ((i b : ℕ) → b < 256 → f i b < 256) → (i : ℕ) (l : List ℕ) → Bytes l → Bytes (each_at f i l)
unfolding each_at
bytes_each f h i [] b = bytes-none
bytes_each f h i (x ∷ l) b = bytes-more (f i x) (each_at f (suc i) l) (h i x (b 0)) (bytes_each f h (suc i) l (λ k. b (suc k)))

-- ---- numbers below a bound

pub byte-below : {k : ℕ} {l : List ℕ} → 0 < k → Below k l → (i : ℕ) → byte l i < k
byte-below p empty i = p
byte-below p (more h b) zero = h
byte-below p (more h b) (suc i) = byte-below p b i

pub below-bytes : {k : ℕ} (l : List ℕ) → ((i : ℕ) → byte l i < k) → Below k l
below-bytes [] h = empty
below-bytes (x ∷ l) h = more (h 0) (below-bytes l (λ i. h (suc i)))

-- ---- one byte

-- the bits of one byte in another
pub merge-byte : (mask old new : ℕ) → old < 256 → new < 256 → merge mask old new < 256
unfolding merge
merge-byte mask old new o n =
    or_lt 8 (bit_and mask new) (clear mask old) (lt_of_le_of_lt (and_le_r mask new) n) (lt_of_le_of_lt (clear-le mask old) o)
