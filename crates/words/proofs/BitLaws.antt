-- The bits of and, or, clear, merge and of one bit set or cleared. No law has a width, but where a complement is taken. Assumes nothing.
use mathlib.Core.Path.{◌≡◌, refl, sym, ap, ap₂, ◌∙◌}
use mathlib.Core.Bool.{Bool, true, false, not, cond, ◌&&◌, ◌||◌, true≢false, false≢true, and-true, and-false, and_comm}
use Prim.Native.Nat.{ℕ, zero, suc, ◌+◌, ◌-◌, ◌*◌, ◌/◌, ◌%◌, ◌^◌, ◌≤◌, ◌<◌, min}
use native.Mathlib.Nat.{pow-suc, div-one, mod-lt, mod-eq_of_lt, div-eq_of_lt, sub-zero, zero-mul, one-mul}
use native.Mathlib.Numerals.{one-add, add-one}
use native.Mathlib.Omega.{arith}
use lib.Bits.{bit_and, bit_or, and_step, and_shr, and_mod, and_mask, or_shr, or_mod, and_lt, and_le_r}
use lib.Dec.{eqb, ltb, eqb-suc-suc}
use lib.Pow.{shr-shr, pow_pos, pow-lt, pow_mono, mod-pow-add}
use mir.Val.{bool_byte}
use borrow.Author.Tests.{eqb-true, ne_eqb, ltb-true, ltb-false}
use Rattle.words.specs.Bits.{bit, field, of_bool, clear, clear_bit, set_bit, merge}
use Rattle.words.proofs.BoolLaws.{by_test}

-- ---- a bit by recursion

pub bit-zero : (x : ℕ) → bit x 0 ≡ eqb (x % 2) 1
unfolding bit
bit-zero x = rw div-one

pub bit-suc : (x i : ℕ) → bit x (suc i) ≡ bit (x / 2) i
unfolding bit
bit-suc x i = ap (λ (n : ℕ). eqb (n % 2) 1) (sym (shr-shr x 1 i ∙ ap (λ (j : ℕ). x / 2 ^ j) (one-add i)))

pub bit_of_zero : (i : ℕ) → bit 0 i ≡ false
bit_of_zero zero = bit-zero 0
bit_of_zero (suc i) = bit-suc 0 i ∙ bit_of_zero i

-- ---- and, or

-- a function of two digits, by its four cases
digits : (f : ℕ → ℕ → ℕ) (g : Bool → Bool → Bool) → eqb (f 0 0) 1 ≡ g false false → eqb (f 0 1) 1 ≡ g false true
    → eqb (f 1 0) 1 ≡ g true false → eqb (f 1 1) 1 ≡ g true true → (a b : ℕ) → a < 2 → b < 2 → eqb (f a b) 1 ≡ g (eqb a 1) (eqb b 1)
digits f g ff ft tf tt zero zero h j = ff
digits f g ff ft tf tt zero (suc zero) h j = ft
digits f g ff ft tf tt zero (suc (suc b)) h j = absurd (omega arith)
digits f g ff ft tf tt (suc zero) zero h j = tf
digits f g ff ft tf tt (suc zero) (suc zero) h j = tt
digits f g ff ft tf tt (suc zero) (suc (suc b)) h j = absurd (omega arith)
digits f g ff ft tf tt (suc (suc a)) b h j = absurd (omega arith)

pub bit-and : (x y k : ℕ) → bit (bit_and x y) k ≡ (bit x k && bit y k)
unfolding bit
bit-and x y k =
    ap (λ (z : ℕ). eqb z 1) (ap (λ (z : ℕ). z % 2) (and_shr x y k) ∙ and_mod (x / 2 ^ k) (y / 2 ^ k) 1)
    ∙ digits bit_and ◌&&◌ refl refl refl refl (x / 2 ^ k % 2) (y / 2 ^ k % 2) (mod-lt (x / 2 ^ k) (omega arith)) (mod-lt (y / 2 ^ k) (omega arith))

pub bit-or : (x y k : ℕ) → bit (bit_or x y) k ≡ (bit x k || bit y k)
unfolding bit
bit-or x y k =
    ap (λ (z : ℕ). eqb z 1) (ap (λ (z : ℕ). z % 2) (or_shr x y k) ∙ or_mod (x / 2 ^ k) (y / 2 ^ k) 1)
    ∙ digits bit_or ◌||◌ refl refl refl refl (x / 2 ^ k % 2) (y / 2 ^ k % 2) (mod-lt (x / 2 ^ k) (omega arith)) (mod-lt (y / 2 ^ k) (omega arith))

-- ---- clear

-- the lowest digit, and the rest
clear_half : (m x : ℕ) → clear m x / 2 ≡ clear (m / 2) (x / 2)
unfolding clear
clear_half m x =
    let e = and_step m x in
    let h : bit_and (m / 2) (x / 2) ≤ x / 2 = and_le_r (m / 2) (x / 2) in
    rw e (omega arith)

clear_odd : (m x : ℕ) → clear m x % 2 ≡ x % 2 - min (m % 2) (x % 2)
unfolding clear
clear_odd m x =
    let e = and_step m x in
    let h : bit_and (m / 2) (x / 2) ≤ x / 2 = and_le_r (m / 2) (x / 2) in
    rw e (omega arith)

pub bit-clear : (m x k : ℕ) → bit (clear m x) k ≡ (bit x k && not (bit m k))
bit-clear m x zero =
    bit-zero (clear m x) ∙ ap (λ (n : ℕ). eqb n 1) (clear_odd m x)
    ∙ digits (λ a b. b - min a b) (λ a b. b && not a) refl refl refl refl (m % 2) (x % 2) (mod-lt m (omega arith)) (mod-lt x (omega arith))
    ∙ sym (ap₂ (λ (a b : Bool). a && not b) (bit-zero x) (bit-zero m))
bit-clear m x (suc k) =
    bit-suc (clear m x) k ∙ ap (λ (n : ℕ). bit n k) (clear_half m x) ∙ bit-clear (m / 2) (x / 2) k
    ∙ sym (ap₂ (λ (a b : Bool). a && not b) (bit-suc x k) (bit-suc m k))

pub clear-le : (m x : ℕ) → clear m x ≤ x
unfolding clear
clear-le m x = omega arith

-- ---- one bit

pub bit_power : (i k : ℕ) → bit (2 ^ i) k ≡ eqb k i
bit_power zero zero = bit-zero 1
bit_power zero (suc k) = bit-suc 1 k ∙ bit_of_zero k ∙ sym (ne_eqb (suc k) 0 (omega arith))
bit_power (suc i) zero =
    let p : 2 ^ suc i ≡ 2 ^ i * 2 = pow-suc 2 i in
    bit-zero (2 ^ suc i) ∙ ap (λ (n : ℕ). eqb n 1) (let z : 2 ^ suc i % 2 ≡ 0 = omega arith in z) ∙ sym (ne_eqb 0 (suc i) (omega arith))
bit_power (suc i) (suc k) =
    let p : 2 ^ suc i ≡ 2 ^ i * 2 = pow-suc 2 i in
    let h : 2 ^ suc i / 2 ≡ 2 ^ i = omega arith in
    bit-suc (2 ^ suc i) k ∙ ap (λ (n : ℕ). bit n k) h ∙ bit_power i k ∙ sym (eqb-suc-suc k i)

-- a digit at bit v
pub bit_digit : (m v j : ℕ) → m < 2 → bit (m * 2 ^ v) j ≡ (eqb j v && eqb m 1)
bit_digit zero v j h = ap (λ (x : ℕ). bit x j) (zero-mul (2 ^ v)) ∙ bit_of_zero j ∙ sym (and-false (eqb j v))
bit_digit (suc zero) v j h = ap (λ (x : ℕ). bit x j) (one-mul (2 ^ v)) ∙ bit_power v j ∙ sym (and-true (eqb j v))
bit_digit (suc (suc m)) v j h = absurd (omega arith)

pub bit-set : (x i k : ℕ) → bit (set_bit x i) k ≡ (eqb k i || bit x k)
unfolding set_bit
bit-set x i k = bit-or (2 ^ i) x k ∙ ap (λ (b : Bool). b || bit x k) (bit_power i k)

pub bit-cleared : (x i k : ℕ) → bit (clear_bit x i) k ≡ (bit x k && not (eqb k i))
unfolding clear_bit
bit-cleared x i k = bit-clear (2 ^ i) x k ∙ ap (λ (b : Bool). bit x k && not b) (bit_power i k)

-- ---- merge

choose : (m o n : Bool) → ((m && n) || (o && not m)) ≡ cond m n o
choose true true true = refl
choose true true false = refl
choose true false true = refl
choose true false false = refl
choose false true n = refl
choose false false n = refl

pub bit-merge : (mask old new k : ℕ) → bit (merge mask old new) k ≡ cond (bit mask k) (bit new k) (bit old k)
unfolding merge
bit-merge mask old new k =
    bit-or (bit_and mask new) (clear mask old) k
    ∙ ap₂ ◌||◌ (bit-and mask new k) (bit-clear mask old k)
    ∙ choose (bit mask k) (bit old k) (bit new k)

-- ---- numbers with the same bits are equal

bound : (x : ℕ) → x < 2 ^ x
bound zero = pow_pos 0
bound (suc x) =
    let p : 2 ^ suc x ≡ 2 ^ x * 2 = pow-suc 2 x in
    let h : x < 2 ^ x = bound x in
    omega arith

odd_same : (a b : ℕ) → a < 2 → b < 2 → eqb a 1 ≡ eqb b 1 → a ≡ b
odd_same zero zero h j e = refl
odd_same zero (suc zero) h j e = absurd (false≢true e)
odd_same zero (suc (suc b)) h j e = absurd (omega arith)
odd_same (suc zero) zero h j e = absurd (true≢false e)
odd_same (suc zero) (suc zero) h j e = refl
odd_same (suc zero) (suc (suc b)) h j e = absurd (omega arith)
odd_same (suc (suc a)) b h j e = absurd (omega arith)

-- of w bits
pub bits_ext_below : (w x y : ℕ) → x < 2 ^ w → y < 2 ^ w → ((k : ℕ) → k < w → bit x k ≡ bit y k) → x ≡ y
bits_ext_below zero x y a b e = let u : x < 1 = a in let v : y < 1 = b in omega arith
bits_ext_below (suc w) x y a b e =
    let p : 2 ^ suc w ≡ 2 ^ w * 2 = pow-suc 2 w in
    let h : x / 2 ≡ y / 2 =
    bits_ext_below w (x / 2) (y / 2) (omega arith) (omega arith) (λ k l. sym (bit-suc x k) ∙ e (suc k) (omega arith) ∙ bit-suc y k) in
    let z : x % 2 ≡ y % 2 =
    odd_same (x % 2) (y % 2) (mod-lt x (omega arith)) (mod-lt y (omega arith)) (sym (bit-zero x) ∙ e 0 (omega arith) ∙ bit-zero y) in
    omega arith

pub bits_ext : (x y : ℕ) → ((k : ℕ) → bit x k ≡ bit y k) → x ≡ y
bits_ext x y e =
    let hx : x < 2 ^ (x + y) = let h : x < 2 ^ x = bound x in let m : 2 ^ x ≤ 2 ^ (x + y) = pow_mono (omega arith) in omega arith in
    let hy : y < 2 ^ (x + y) = let h : y < 2 ^ y = bound y in let m : 2 ^ y ≤ 2 ^ (x + y) = pow_mono (omega arith) in omega arith in
    bits_ext_below (x + y) x y hx hy (λ k _. e k)

pub bit_above : (w x k : ℕ) → x < 2 ^ w → w ≤ k → bit x k ≡ false
unfolding bit
bit_above w x k h l =
    let m : 2 ^ w ≤ 2 ^ k = pow_mono l in
    let z : x / 2 ^ k ≡ 0 = div-eq_of_lt (omega arith) in
    rw z

-- ---- the complement, at every width

pub bit_not : (w x k : ℕ) → x < 2 ^ w → k < w → bit ((2 ^ w - 1) - x) k ≡ not (bit x k)
bit_not zero x k h l = absurd (omega arith)
bit_not (suc w) x zero h l =
    let p : 2 ^ suc w ≡ 2 ^ w * 2 = pow-suc 2 w in
    bit-zero ((2 ^ suc w - 1) - x) ∙ flip (x % 2) (((2 ^ suc w - 1) - x) % 2) (omega arith) (omega arith) ∙ ap not (sym (bit-zero x))
  where
    flip : (a b : ℕ) → a < 2 → a + b ≡ 1 → eqb b 1 ≡ not (eqb a 1)
    flip zero b h e = let z : b ≡ 1 = omega arith in rw z
    flip (suc zero) b h e = let z : b ≡ 0 = omega arith in rw z
    flip (suc (suc a)) b h e = absurd (omega arith)
bit_not (suc w) x (suc k) h l =
    let p : 2 ^ suc w ≡ 2 ^ w * 2 = pow-suc 2 w in
    let e : ((2 ^ suc w - 1) - x) / 2 ≡ (2 ^ w - 1) - x / 2 = omega arith in
    bit-suc ((2 ^ suc w - 1) - x) k ∙ ap (λ (n : ℕ). bit n k) e ∙ bit_not w (x / 2) k (omega arith) (omega arith) ∙ ap not (sym (bit-suc x k))

-- the n lowest bits
pub bit-ones : (n k : ℕ) → bit (2 ^ n - 1) k ≡ ltb k n
bit-ones n k =
    by_test (ltb k n)
    (λ t. ap (λ (x : ℕ). bit x k) (sym (sub-zero (2 ^ n - 1))) ∙ bit_not n 0 k (pow_pos n) (ltb-true k n t) ∙ ap not (bit_of_zero k) ∙ sym t)
    (λ t. bit_above n (2 ^ n - 1) k (let p : zero < 2 ^ n = pow_pos n in omega arith) (ltb-false k n t) ∙ sym t)

-- of w bits those that m does not have
pub clear-ones : (w m : ℕ) → m < 2 ^ w → (2 ^ w - 1) - m ≡ clear m (2 ^ w - 1)
unfolding clear
clear-ones w m h = ap (λ (x : ℕ). (2 ^ w - 1) - x) (sym (and_mask m w ∙ mod-eq_of_lt h))

-- and with a complement clears
pub and-not : (w mask x : ℕ) → mask < 2 ^ w → x < 2 ^ w → bit_and ((2 ^ w - 1) - mask) x ≡ clear mask x
and-not w mask x h j =
    bits_ext_below w (bit_and ((2 ^ w - 1) - mask) x) (clear mask x)
    (and_lt w ((2 ^ w - 1) - mask) x (let p : zero < 2 ^ w = pow_pos w in omega arith) j) (omega (arith, clear-le mask x))
    λ k l. bit-and ((2 ^ w - 1) - mask) x k ∙ ap (λ (b : Bool). b && bit x k) (bit_not w mask k h l) ∙ and_comm (not (bit mask k)) (bit x k) ∙ sym (bit-clear mask x k)

-- one bit of w
pub clear-one : (w x k : ℕ) → k < w → x < 2 ^ w → bit_and ((2 ^ w - 1) - 2 ^ k) x ≡ clear_bit x k
unfolding clear_bit
clear-one w x k h j = and-not w (2 ^ k) x (pow-lt h) j

-- a bit that was not set, set and cleared again
pub clear_unset : (x i : ℕ) → bit x i ≡ false → clear_bit (set_bit x i) i ≡ x
clear_unset x i h =
    bits_ext (clear_bit (set_bit x i) i) x
    λ k. bit-cleared (set_bit x i) i k ∙ ap (λ (b : Bool). b && not (eqb k i)) (bit-set x i k)
    ∙ by_test (eqb k i) (λ e. rw e (sym (ap (bit x) (eqb-true k i e) ∙ h))) (λ e. rw e (and-true (bit x k)))

-- ---- laws of clear and merge that follow bit by bit

again : (a b c d : Bool) → cond a b (cond a c d) ≡ cond a b d
again true b c d = refl
again false b c d = refl

pub merge-merge : (m d x b : ℕ) → merge m (merge m d x) b ≡ merge m d b
merge-merge m d x b =
    bits_ext (merge m (merge m d x) b) (merge m d b)
    λ k. bit-merge m (merge m d x) b k ∙ ap (cond (bit m k) (bit b k)) (bit-merge m d x k)
    ∙ again (bit m k) (bit b k) (bit x k) (bit d k) ∙ sym (bit-merge m d b k)

drop_new : (m n o : Bool) → (cond m n o && not m) ≡ (o && not m)
drop_new true true true = refl
drop_new true true false = refl
drop_new true false true = refl
drop_new true false false = refl
drop_new false n o = refl

-- what is cleared does not show what was merged in
pub clear-merge : (m o n : ℕ) → clear m (merge m o n) ≡ clear m o
clear-merge m o n =
    bits_ext (clear m (merge m o n)) (clear m o)
    λ k. bit-clear m (merge m o n) k ∙ ap (λ (b : Bool). b && not (bit m k)) (bit-merge m o n k)
    ∙ drop_new (bit m k) (bit n k) (bit o k) ∙ sym (bit-clear m o k)

pub clear_none : (x : ℕ) → clear 0 x ≡ x
clear_none x =
    bits_ext (clear 0 x) x λ k. bit-clear 0 x k ∙ ap (λ (b : Bool). bit x k && not b) (bit_of_zero k) ∙ and-true (bit x k)

pub clear_comm : (m n x : ℕ) → clear m (clear n x) ≡ clear n (clear m x)
clear_comm m n x =
    bits_ext (clear m (clear n x)) (clear n (clear m x))
    λ k. bit-clear m (clear n x) k ∙ ap (λ (b : Bool). b && not (bit m k)) (bit-clear n x k) ∙ swap (bit x k) (bit m k) (bit n k)
    ∙ sym (bit-clear n (clear m x) k ∙ ap (λ (b : Bool). b && not (bit n k)) (bit-clear m x k))
  where
    swap : (a b c : Bool) → ((a && not c) && not b) ≡ ((a && not b) && not c)
    swap true true true = refl
    swap true true false = refl
    swap true false true = refl
    swap true false false = refl
    swap false b c = refl

-- ---- bits that are all set in another number

pub and-part : (w x : ℕ) → ((v : ℕ) → bit w v ≡ true → bit x v ≡ true) → bit_and w x ≡ w
and-part w x h = bits_ext (bit_and w x) w (λ v. bit-and w x v ∙ at v (bit w v) refl)
  where
    at : (v : ℕ) (b : Bool) → bit w v ≡ b → (b && bit x v) ≡ b
    at v true e = h v e
    at v false e = refl

-- ---- a bool as a number

pub of_bool-small : (b : Bool) → of_bool b ≤ 1
unfolding of_bool
of_bool-small true = omega arith
of_bool-small false = omega arith

pub flag_number : (b : Bool) → bool_byte b ≡ of_bool b
unfolding of_bool
flag_number true = refl
flag_number false = refl

pub flag_small : (b : Bool) → bool_byte b ≤ 1
flag_small b = rw (flag_number b) (of_bool-small b)

-- ---- fields

pub bit_shift : (x i k : ℕ) → bit (x / 2 ^ i) k ≡ bit x (i + k)
unfolding bit
bit_shift x i k = ap (λ (n : ℕ). eqb (n % 2) 1) (shr-shr x i k)

-- of the n lowest bits
mod_same : (n x y : ℕ) → ((k : ℕ) → k < n → bit x k ≡ bit y k) → x % 2 ^ n ≡ y % 2 ^ n
mod_same zero x y e = let u : x % 1 ≡ 0 = omega arith in let v : y % 1 ≡ 0 = omega arith in u ∙ sym v
mod_same (suc n) x y e =
    let p : 2 ^ suc n ≡ 2 ^ n * 2 = pow-suc 2 n in
    let h : x / 2 % 2 ^ n ≡ y / 2 % 2 ^ n = mod_same n (x / 2) (y / 2) (λ k l. sym (bit-suc x k) ∙ e (suc k) (omega arith) ∙ bit-suc y k) in
    let z : x % 2 ≡ y % 2 =
    odd_same (x % 2) (y % 2) (mod-lt x (omega arith)) (mod-lt y (omega arith)) (sym (bit-zero x) ∙ e 0 (omega arith) ∙ bit-zero y) in
    halves x ∙ ap₂ (λ (a b : ℕ). a * 2 + b) h z ∙ sym (halves y)
  where
    halves : (x : ℕ) → x % 2 ^ suc n ≡ (x / 2 % 2 ^ n) * 2 + x % 2
    halves x = ap (λ (m : ℕ). x % 2 ^ m) (sym (add-one n)) ∙ mod-pow-add x n 1

-- a field is its bits
pub field-same : (x y i n : ℕ) → ((k : ℕ) → k < n → bit x (i + k) ≡ bit y (i + k)) → field x i n ≡ field y i n
unfolding field
field-same x y i n e = mod_same n (x / 2 ^ i) (y / 2 ^ i) (λ k l. bit_shift x i k ∙ e k l ∙ sym (bit_shift y i k))
