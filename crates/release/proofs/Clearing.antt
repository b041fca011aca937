-- Waiting bits cleared: what the model's sweep leaves of a function, and of a pending array. Assumes nothing.
use mathlib.Core.Path.{◌≡◌, refl, sym, ap, ◌∙◌}
use mathlib.Core.Bool.{Bool, false, not, ◌&&◌, and-true}
use mathlib.Core.List.{List, [], ◌∷◌, ◌++◌}
use Prim.Native.Nat.{ℕ, ◌+◌, ◌*◌, ◌/◌, ◌%◌, ◌^◌, ◌<◌}
use native.Mathlib.Omega.{arith}
use lib.Dec.{ltb}
use lib.ListN.{length, set}
use lib.Seq.{ext_get_or}
use borrow.Author.Tests.{ltb-true, ltb-false}
use Rattle.words.specs.Lists.{count, member}
use Rattle.words.specs.Bits.{bit, clear, clear_bit}
use Rattle.words.specs.Bytes.{byte, Bytes}
use Rattle.words.proofs.BoolLaws.{by_test}
use Rattle.words.proofs.BitLaws.{bits_ext, bits_ext_below, bit-clear, clear-le, bit_above}
use Rattle.words.proofs.ByteLaws.{bytes-set}
use Rattle.words.proofs.ListLaws.{Holds, member-keep, count-member}
use Rattle.model.specs.declared.Mode.TheVariants.{Msi, Msix}
use Rattle.model.specs.World.{Endpoint, endpoint_of, with_waiting, zero_function}
use Rattle.model.specs.Vectors.{waits, change_waiting, pending_bit}
use Rattle.model.specs.Release.{clear_all}
use Rattle.model.proofs.Vectors.WaitingLaws.{clear_only, waits-clear}
use Rattle.release.specs.Owed.{set_bits, clear_pending}

-- ---- MSI: only the waiting word changes

msi_only : (u : Endpoint) (vs : List ℕ) → clear_all Msi u vs ≡ with_waiting u (clear_all Msi u vs).function.waiting u.pending
unfolding clear_all change_waiting
msi_only u [] = refl
msi_only u (v ∷ vs) = msi_only (change_waiting clear_bit Msi u v) vs

-- ---- MSI-X: only the pending array changes

pub clear-msix : (u : Endpoint) (vs : List ℕ) → clear_all Msix u vs ≡ with_waiting u u.function.waiting (clear_pending u.pending vs)
unfolding clear_all change_waiting clear_pending
clear-msix u [] = refl
clear-msix u (v ∷ vs) = clear-msix (change_waiting clear_bit Msix u v) vs

-- ---- the set bits of a word, cleared in another

member_bits : (k w x : ℕ) → w < 2 ^ k → member x (set_bits k w) ≡ bit w x
member_bits k w x h =
    member-keep (bit w) (count 0 k) x
    ∙ by_test (ltb x k)
    (λ t. let l : x < k = ltb-true x k t in ap (λ (b : Bool). bit w x && b) (count-member 0 k x (omega arith) (omega arith)) ∙ and-true (bit w x))
    (λ t. let e : bit w x ≡ false = bit_above k w x h (ltb-false x k t) in rw e)

msi-waiting : (k w : ℕ) (u : Endpoint) → w < 2 ^ k → (clear_all Msi u (set_bits k w)).function.waiting ≡ clear w u.function.waiting
unfolding waits
msi-waiting k w u h =
    bits_ext (clear_all Msi u (set_bits k w)).function.waiting (clear w u.function.waiting)
    (λ x.
    waits-clear Msi u (set_bits k w) x (λ v m. tt) ∙ ap (λ (b : Bool). bit u.function.waiting x && not b) (member_bits k w x h)
    ∙ sym (bit-clear w u.function.waiting x))

pub clear-msi : (k w : ℕ) (u : Endpoint) → w < 2 ^ k → clear_all Msi u (set_bits k w) ≡ with_waiting u (clear w u.function.waiting) u.pending
clear-msi k w u h = msi_only u (set_bits k w) ∙ ap (λ (x : ℕ). with_waiting u x u.pending) (msi-waiting k w u h)

-- ---- a pending array

pub waits-cleared : (p vs : List ℕ) (x : ℕ) → Holds (λ v. v < 8 * length p) vs → pending_bit (clear_pending p vs) x ≡ (pending_bit p x && not (member x vs))
unfolding waits pending_bit clear_pending
waits-cleared p vs x h = waits-clear Msix (endpoint_of zero_function [] p) vs x h

pub length-cleared : (p vs : List ℕ) → length (clear_pending p vs) ≡ length p
unfolding clear_pending
length-cleared p vs = (clear_only Msix (endpoint_of zero_function [] p) vs).pending_length

pub clear_nothing : (p : List ℕ) → clear_pending p [] ≡ p
unfolding clear_pending clear_all
clear_nothing p = refl

clear_first : (p : List ℕ) (v : ℕ) (vs : List ℕ) → clear_pending p (v ∷ vs) ≡ clear_pending (set p (v / 8) (clear_bit (byte p (v / 8)) (v % 8))) vs
unfolding clear_pending clear_all change_waiting
clear_first p v vs = refl

pub clear-append : (p vs ws : List ℕ) → clear_pending p (vs ++ ws) ≡ clear_pending (clear_pending p vs) ws
clear-append p [] ws = ap (λ (q : List ℕ). clear_pending q ws) (sym (clear_nothing p))
clear-append p (v ∷ vs) ws =
    clear_first p v (vs ++ ws) ∙ clear-append (set p (v / 8) (clear_bit (byte p (v / 8)) (v % 8))) vs ws
    ∙ ap (λ (q : List ℕ). clear_pending q ws) (sym (clear_first p v vs))

pub bytes-cleared : (p vs : List ℕ) → Bytes p → Bytes (clear_pending p vs)
unfolding clear_bit
bytes-cleared p [] b = rw (clear_nothing p) b
bytes-cleared p (v ∷ vs) b =
    let x : ℕ = clear_bit (byte p (v / 8)) (v % 8) in
    let h : x < 256 = omega (arith, b (v / 8), clear-le (2 ^ (v % 8)) (byte p (v / 8))) in
    rw (clear_first p v vs) (bytes-cleared (set p (v / 8) x) vs (bytes-set p (v / 8) x b h))

-- ---- lists of bytes with the same bits are equal

pub same_bits : (l m : List ℕ) → length l ≡ length m → Bytes l → Bytes m → ((v : ℕ) → v < 8 * length l → pending_bit l v ≡ pending_bit m v) → l ≡ m
unfolding pending_bit
same_bits l m n a b h =
    ext_get_or 0 l m n
    (λ i q.
    bits_ext_below 8 (byte l i) (byte m i) (a i) (b i)
    (λ k s.
    let e : (8 * i + k) / 8 ≡ i = omega arith in
    let d : (8 * i + k) % 8 ≡ k = omega arith in
    rw (e, d) at (h (8 * i + k) (omega arith))))
