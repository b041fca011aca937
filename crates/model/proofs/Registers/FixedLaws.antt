-- No write and no start changes a fixed bit; what a start gives depends on the fixed bits alone. Assumes nothing.
use mathlib.Core.Path.{◌≡◌, refl, sym, ap, ◌∙◌}
use mathlib.Core.Bool.{Bool, true, false, not, ◌&&◌}
use mathlib.Core.List.{List}
use Prim.Native.Nat.{ℕ, ◌≤◌, ◌<◌}
use native.Mathlib.Omega.{arith}
use lib.Dec.{ltb}
use lib.ListN.{length, get_or-eq_default}
use lib.Seq.{ext_get_or}
use borrow.Author.Tests.{ltb-true, ltb-false}
use Rattle.words.specs.Bits.{bit, clear}
use Rattle.words.specs.Bytes.{byte}
use Rattle.words.proofs.BitLaws.{bits_ext, bit-clear, clear_comm}
use Rattle.words.proofs.BoolLaws.{by_test}
use Rattle.words.proofs.ListLaws.{length_each, byte_each}
use Rattle.model.specs.declared.Shape.{Shape}
use Rattle.model.specs.Registers.{writable, stored_zero, fixed_byte, written, started_config}
use Rattle.model.proofs.Registers.WriteLaws.{length-written, clear-written}

-- the same past the end of both lists
pub everywhere : (P : ℕ → ℕ → Type 0) (l m : List ℕ) → length l ≡ length m → ((k : ℕ) → P 0 0)
    → (k : ℕ) → (k < length m → P (byte l k) (byte m k)) → P (byte l k) (byte m k)
everywhere P l m n z k f =
    by_test (ltb k (length m)) (λ e. f (ltb-true k (length m) e))
    (λ e.
    let h : length m ≤ k = ltb-false k (length m) e in
    let a : byte l k ≡ 0 = get_or-eq_default l 0 (omega arith) in
    let b : byte m k ≡ 0 = get_or-eq_default m 0 h in
    rw (a, b) (z k))

-- fixed bits, through another order of the masks
pub fixed_clear : (s : Shape) (k x y : ℕ) → clear (writable s k) x ≡ clear (writable s k) y → fixed_byte s k x ≡ fixed_byte s k y
unfolding fixed_byte
fixed_clear s k x y e =
    clear_comm (writable s k) (stored_zero s k) x ∙ ap (clear (stored_zero s k)) e ∙ clear_comm (stored_zero s k) (writable s k) y

pub fixed_written : (s : Shape) (c : List ℕ) (o : ℕ) (bs : List ℕ) (k : ℕ) → fixed_byte s k (byte (written (writable s) c o bs) k) ≡ fixed_byte s k (byte c k)
fixed_written s c o bs k =
    everywhere (λ x y. fixed_byte s k x ≡ fixed_byte s k y) (written (writable s) c o bs) c (length-written (writable s) c o bs) (λ _. refl) k
    (λ h. fixed_clear s k (byte (written (writable s) c o bs) k) (byte c k) (clear-written (writable s) c o bs k h))

-- ---- a start

pub length-started : (s : Shape) (c : List ℕ) → length (started_config s c) ≡ length c
unfolding started_config
length-started s c = length_each (fixed_byte s) 0 c

pub byte-started : (s : Shape) (c : List ℕ) (k : ℕ) → k < length c → byte (started_config s c) k ≡ fixed_byte s k (byte c k)
unfolding started_config
byte-started s c k h = byte_each (fixed_byte s) c k h

clear-clear : (m x : ℕ) → clear m (clear m x) ≡ clear m x
clear-clear m x =
    bits_ext (clear m (clear m x)) (clear m x)
    λ k. bit-clear m (clear m x) k ∙ ap (λ (b : Bool). b && not (bit m k)) (bit-clear m x k) ∙ again (bit x k) (not (bit m k)) ∙ sym (bit-clear m x k)
  where
    again : (a b : Bool) → ((a && b) && b) ≡ (a && b)
    again true true = refl
    again true false = refl
    again false b = refl

fixed_fixed : (s : Shape) (k x : ℕ) → fixed_byte s k (fixed_byte s k x) ≡ fixed_byte s k x
unfolding fixed_byte
fixed_fixed s k x =
    let w : ℕ = writable s k in
    let z : ℕ = stored_zero s k in
    ap (clear w) (clear_comm z w (clear z x)) ∙ clear-clear w (clear z (clear z x)) ∙ ap (clear w) (clear-clear z x)

pub fixed_started : (s : Shape) (c : List ℕ) (k : ℕ) → fixed_byte s k (byte (started_config s c) k) ≡ fixed_byte s k (byte c k)
fixed_started s c k =
    everywhere (λ x y. fixed_byte s k x ≡ fixed_byte s k y) (started_config s c) c (length-started s c) (λ _. refl) k
    (λ h. ap (fixed_byte s k) (byte-started s c k h) ∙ fixed_fixed s k (byte c k))

-- configurations that agree in the fixed bits start alike
pub started-same : (s : Shape) (c d : List ℕ) → length d ≡ length c → ((k : ℕ) → fixed_byte s k (byte d k) ≡ fixed_byte s k (byte c k)) → started_config s d ≡ started_config s c
started-same s c d n e =
    ext_get_or 0 (started_config s d) (started_config s c) (length-started s d ∙ n ∙ sym (length-started s c))
    λ k h. let j : k < length d = omega (arith, length-started s d) in byte-started s d k j ∙ e k ∙ sym (byte-started s c k (omega arith))
