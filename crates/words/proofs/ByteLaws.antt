-- A number from its bytes and back, at every width. Assumes nothing.
use mathlib.Core.Path.{◌≡◌, refl, sym, ap, ap₂, ◌∙◌}
use mathlib.Core.List.{List, [], ◌∷◌, ◌++◌}
use Prim.Native.Nat.{ℕ, zero, suc, ◌+◌, ◌-◌, ◌*◌, ◌/◌, ◌%◌, ◌^◌, ◌≤◌, ◌<◌}
use native.Mathlib.Nat.{mod-lt, div-one, div-lt_iff_lt-mul, zero-lt-suc, pow-suc}
use native.Mathlib.Omega.{arith}
use lib.Arith.{lt-one}
use lib.Dec.{eqb, ltb}
use lib.ListN.{length, take, drop, set, length-reverse, length-drop, take-append-drop, get_or-eq_default}
use lib.Pow.{shr-shr}
use lib.Seq.{length-take-le, take-add, drop-cons, drop-drop, set_out, get_or-take, get_or-drop, get_or-set_same, get_or-set_other}
use borrow.Author.Tests.{eqb-true, eqb-false, ltb-true, ltb-false}
use Rattle.words.specs.Lists.{join}
use Rattle.words.specs.Bytes.{byte, number, word32, word64, words32, bytes_of, bytes_high, part, Below, empty, more, Bytes}
use Rattle.words.proofs.BoolLaws.{by_test}
use Rattle.words.proofs.ListLaws.{join_each}

pub length-bytes_of : (n x : ℕ) → length (bytes_of n x) ≡ n
unfolding bytes_of
length-bytes_of zero x = refl
length-bytes_of (suc n) x = ap suc (length-bytes_of n (x / 256))

pub length-bytes_high : (n x : ℕ) → length (bytes_high n x) ≡ n
unfolding bytes_high
length-bytes_high n x = length-reverse (bytes_of n x) ∙ length-bytes_of n x

pub bytes_of_lt : (n x k : ℕ) → byte (bytes_of n x) k < 256
unfolding bytes_of
bytes_of_lt zero x k = omega arith
bytes_of_lt (suc n) x zero = mod-lt x (omega arith)
bytes_of_lt (suc n) x (suc k) = bytes_of_lt n (x / 256) k

-- of n bytes those from place i on, where the number is x by then: the first, and none
pub bytes_of-next : (n i x : ℕ) → i < n → bytes_of (n - i) x ≡ x % 256 ∷ bytes_of (n - (i + 1)) (x / 256)
unfolding bytes_of
bytes_of-next n i x h = let e : n - i ≡ suc (n - (i + 1)) = omega arith in rw e

pub bytes_of_end : (n i x : ℕ) → n ≤ i → bytes_of (n - i) x ≡ []
unfolding bytes_of
bytes_of_end n i x h = let e : n - i ≡ 0 = omega arith in rw e

-- byte k of a number
pub byte_of : (n x k : ℕ) → k < n → byte (bytes_of n x) k ≡ x / 2 ^ (8 * k) % 256
unfolding bytes_of
byte_of zero x k h = absurd (omega arith)
byte_of (suc n) x zero h = rw div-one
byte_of (suc n) x (suc k) h =
    let e : 8 + 8 * k ≡ 8 * suc k = omega arith in
    byte_of n (x / 256) k (omega arith) ∙ ap (λ (y : ℕ). y % 256) (shr-shr x 8 (8 * k) ∙ ap (λ (j : ℕ). x / 2 ^ j) e)

-- the bytes of a word, by its quotients
pub bytes_of-four : (x : ℕ) → bytes_of 4 x ≡ x % 256 ∷ x / 256 % 256 ∷ x / 65536 % 256 ∷ x / 16777216 % 256 ∷ []
unfolding bytes_of
bytes_of-four x =
    let e : x / 256 / 256 ≡ x / 65536 = omega arith in
    let d : x / 65536 / 256 ≡ x / 16777216 = omega arith in
    rw (e, d)

pub bytes_high-four : (x : ℕ) → bytes_high 4 x ≡ x / 16777216 % 256 ∷ x / 65536 % 256 ∷ x / 256 % 256 ∷ x % 256 ∷ []
unfolding bytes_high
bytes_high-four x = rw (bytes_of-four x)

pub bytes_high-two : (x : ℕ) → bytes_high 2 x ≡ x / 256 % 256 ∷ x % 256 ∷ []
unfolding bytes_high bytes_of
bytes_high-two x = refl

-- ---- number looks only at its n bytes

pub number_same : (f g : ℕ → ℕ) (i n : ℕ) → ((k : ℕ) → i ≤ k → k < i + n → f k ≡ g k) → number f i n ≡ number g i n
unfolding number
number_same f g i zero h = refl
number_same f g i (suc n) h =
    ap₂ (λ (a b : ℕ). a + 256 * b) (h i (omega arith) (omega arith))
    (number_same f g (suc i) n (λ k a b. h k (omega arith) (omega arith)))

-- the same bytes from another place on
pub number_shift : (f g : ℕ → ℕ) (i j n : ℕ) → ((k : ℕ) → k < n → f (i + k) ≡ g (j + k)) → number f i n ≡ number g j n
unfolding number
number_shift f g i j zero h = refl
number_shift f g i j (suc n) h =
    ap₂ (λ (a b : ℕ). a + 256 * b)
    (let e : i + 0 ≡ i = omega arith in let d : j + 0 ≡ j = omega arith in rw (e, d) at (h 0 (omega arith)))
    (number_shift f g (suc i) (suc j) n
    (λ k l. let e : i + suc k ≡ suc i + k = omega arith in let d : j + suc k ≡ suc j + k = omega arith in rw (e, d) at (h (suc k) (omega arith))))

pub number_lt : (f : ℕ → ℕ) (i n : ℕ) → ((k : ℕ) → f k < 256) → number f i n < 256 ^ n
unfolding number
number_lt f i zero h = omega arith
number_lt f i (suc n) h =
    let p : 256 ^ suc n ≡ 256 ^ n * 256 = pow-suc 256 n in
    let a : f i < 256 = h i in
    let b : number f (suc i) n < 256 ^ n = number_lt f (suc i) n h in
    omega arith

pub word32-lt : (l : List ℕ) (i : ℕ) → Bytes l → word32 l i < 2 ^ 32
unfolding word32
word32-lt l i b = number_lt (byte l) i 4 b

pub word64-lt : (l : List ℕ) (i : ℕ) → Bytes l → word64 l i < 2 ^ 64
unfolding word64
word64-lt l i b = number_lt (byte l) i 8 b

-- past the end
pub word_past : (l : List ℕ) (i : ℕ) → length l ≤ i → word32 l i ≡ 0
unfolding word32 number
word_past l i h = number_same (byte l) (λ _. 0) i 4 (λ k a b. get_or-eq_default l 0 (omega arith))

-- a number that fits is the number of its bytes
pub number-bytes_of : (n x : ℕ) → x < 256 ^ n → number (byte (bytes_of n x)) 0 n ≡ x
unfolding number bytes_of
number-bytes_of zero x h = sym (lt-one h)
number-bytes_of (suc n) x h =
    let q : x / 256 < 256 ^ n = (div-lt_iff_lt-mul (zero-lt-suc 255)).1 (rw pow-suc at h) in
    let e : number (byte (x % 256 ∷ bytes_of n (x / 256))) 1 n ≡ x / 256 =
    number_shift (byte (x % 256 ∷ bytes_of n (x / 256))) (byte (bytes_of n (x / 256))) 1 0 n
    (λ k l. let s : 1 + k ≡ suc k = omega arith in let z : 0 + k ≡ k = omega arith in rw (s, z))
    ∙ number-bytes_of n (x / 256) q in
    rw e (omega arith)

-- ---- four-byte numbers one behind another

pub words32-join : {z : List ℕ} (rest : List ℕ) → Below (256 ^ 4) z → words32 (length z) (join (bytes_of 4) z ++ rest) ≡ z
unfolding words32 join bytes_of word32 number
words32-join rest empty = refl
words32-join rest (more {x = x} {l = l} h b) =
    ap₂ {C = List ℕ} (λ (y : ℕ) (r : List ℕ). y ∷ r) (number-bytes_of 4 x h) (words32-join rest b)

pub length_join32 : (z : List ℕ) → length (join (bytes_of 4) z) ≡ 4 * length z
length_join32 z = join_each (bytes_of 4) 4 z (length-bytes_of 4)

pub word_drop : (s : List ℕ) (k i : ℕ) → word32 (drop k s) i ≡ word32 s (k + i)
unfolding word32
word_drop s k i =
    number_shift (byte (drop k s)) (byte s) i (k + i) 4
    (λ j h. let e : k + (i + j) ≡ k + i + j = omega arith in get_or-drop k s (i + j) 0 ∙ rw e)

-- ---- bytes from their number

-- the n bytes from place i on
pub bytes-number : (l : List ℕ) → Bytes l → (i n : ℕ) → i + n ≤ length l → bytes_of n (number (byte l) i n) ≡ part i n l
unfolding bytes_of number part
bytes-number l b i zero h = refl
bytes-number l b i (suc n) h =
    let x : byte l i < 256 = b i in
    let m : ℕ = number (byte l) (suc i) n in
    let lo : (byte l i + 256 * m) % 256 ≡ byte l i = omega arith in
    let hi : (byte l i + 256 * m) / 256 ≡ m = omega arith in
    rw (lo, hi, drop-cons l i 0 (omega arith)) (ap (λ (r : List ℕ). byte l i ∷ r) (bytes-number l b (suc i) n (omega arith)))

module _ (s : List ℕ) (at n : ℕ) where
  pub length_part : at + n ≤ length s → length (part at n s) ≡ n
  unfolding part
  length_part h = length-take-le n (drop at s) (rw length-drop (omega arith))

  pub byte-part : (i : ℕ) → i < n → byte (part at n s) i ≡ byte s (at + i)
  unfolding part
  byte-part i h = rw (get_or-take, get_or-drop)

pub part-next : (l : List ℕ) (i n : ℕ) → part i n l ++ drop (i + n) l ≡ drop i l
unfolding part
part-next l i n = ap (λ (r : List ℕ). take n (drop i l) ++ r) (sym (drop-drop n i l)) ∙ take-append-drop n (drop i l)

pub drop-bytes : (k : ℕ) (l : List ℕ) → Bytes l → Bytes (drop k l)
drop-bytes k l h i = rw (get_or-drop k l i 0) (h (k + i))

pub bytes-set : (l : List ℕ) (i x : ℕ) → Bytes l → x < 256 → Bytes (set l i x)
bytes-set l i x b h j =
    by_test (eqb j i)
    (λ t.
    let e : j ≡ i = eqb-true j i t in
    by_test (ltb i (length l)) (λ q. rw (e, get_or-set_same l i x 0 (ltb-true i (length l) q)) h)
    (λ q. rw (set_out l i x (ltb-false i (length l) q)) (b j)))
    (λ t. rw (get_or-set_other l i j x 0 (eqb-false j i t)) (b j))

pub join-words : (n : ℕ) (l : List ℕ) → Bytes l → 4 * n ≤ length l → join (bytes_of 4) (words32 n l) ≡ take (4 * n) l
unfolding words32 join word32 part
join-words zero l b h = refl
join-words (suc n) l b h =
    let e : 4 * suc n ≡ 4 + 4 * n = omega arith in
    ap₂ ◌++◌ (bytes-number l b 0 4 (omega arith)) (join-words n (drop 4 l) (drop-bytes 4 l b) (omega (arith, length-drop 4 l)))
    ∙ sym (ap (λ (k : ℕ). take k l) e ∙ take-add 4 (4 * n) l)
