-- The parts of the soundness check, by each way to find them. Assumes nothing.
use mathlib.Core.Path.{◌≡◌, refl, sym, ap, ◌∙◌}
use mathlib.Core.Bool.{Bool, true, false, not}
use mathlib.Core.List.{List, [], ◌∷◌}
use Prim.Native.Nat.{ℕ, ◌-◌, ◌*◌, ◌%◌, ◌^◌, ◌≤◌, ◌<◌}
use native.Mathlib.Omega.{arith}
use lib.Dec.{ltb, eqb}
use lib.ListN.{length}
use lib.Pow.{pow_mono}
use borrow.Author.Tests.{eqb-true, eqb-false, not-true, not-false}
use Rattle.words.specs.Lists.{all, count, keep}
use Rattle.words.specs.Bits.{bit}
use Rattle.words.proofs.BitLaws.{bits_ext_below, bit_of_zero}
use Rattle.words.proofs.ListLaws.{keep-nil, count-member}
use Rattle.words.proofs.LowestLaws.{one_shl}
use Rattle.words.proofs.OnesLaws.{no_set_bits}
use Rattle.words.proofs.BoolLaws.{by_test, below_one}
use Rattle.model.specs.declared.Mode.{Mode}
use Rattle.model.specs.declared.Mode.TheVariants.{Pin, Msi, Msix}
use Rattle.model.specs.declared.Function.{Function}
use Rattle.model.specs.declared.Shape.{Shape}
use Rattle.model.specs.Shape.{msi_vectors, table_bytes}
use Rattle.model.specs.World.{Endpoint, registers, endpoint_of}
use Rattle.model.specs.Vectors.{mode_of, owed, vector_count, pending_bit}
use Rattle.model.specs.Release.{owed_now}
use Rattle.model.specs.Sound.{waits_below, is_empty}
use Rattle.vectors.specs.Enabled.{msix_enabled}
use Rattle.vectors.proofs.CountLaws as CountLaws
use Rattle.vectors.proofs.OpenLaws.{owed_shut}
use Rattle.release.specs.Owed.{set_bits, owed_entries, entries}
use Rattle.release.proofs.OwedLaws.{beyond-waits}
use Rattle.endpoint.proofs.SweepFor.{owed_here}

-- ---- MSI's waiting bits

-- without MSI there is no bit
pub no-msi : (waiting : ℕ) (s : Shape) → s.msi.at ≡ 0 → eqb waiting 0 ≡ ltb waiting (2 ^ msi_vectors s)
no-msi waiting s e = sym (below_one waiting) ∙ ap (λ (k : ℕ). ltb waiting (2 ^ k)) (CountLaws.no-msi s e)

pub msi-count : (s : Shape) → s.msi.capable ≤ 5 → 2 ^ s.msi.capable ≤ 32
msi-count s h = pow_mono h

-- the shifts of the code
pub shifted_count : (s : Shape) → s.msi.capable ≤ 5 → (1 * 2 ^ s.msi.capable) % 2 ^ 64 ≡ 2 ^ s.msi.capable
shifted_count s h = one_shl 64 s.msi.capable (omega arith)

pub count_small : (s : Shape) → s.msi.capable ≤ 5 → (1 * 2 ^ s.msi.capable) % 2 ^ 64 < 64
count_small s h = omega (arith, shifted_count s h, msi-count s h)

pub with-msi : (waiting n : ℕ) (s : Shape) → (s.msi.at ≡ 0 → ⊥) → s.msi.capable ≤ 5 → n ≡ (1 * 2 ^ s.msi.capable) % 2 ^ 64
    → ltb waiting ((1 * 2 ^ n) % 2 ^ 64) ≡ ltb waiting (2 ^ msi_vectors s)
with-msi waiting n s p h e =
    let c : n ≡ 2 ^ s.msi.capable = e ∙ shifted_count s h in
    let l : n ≤ 32 = omega (arith, msi-count s h) in
    ap (ltb waiting) (one_shl 64 n (omega arith) ∙ ap (λ (k : ℕ). 2 ^ k) c)
    ∙ ap (λ (k : ℕ). ltb waiting (2 ^ k)) (CountLaws.with-msi s p)

-- a word of 32 bits is 0 exactly if no bit is set
zero_bits_lem : (w : ℕ) → w < 2 ^ 32 → eqb w 0 ≡ is_empty (set_bits 32 w)
unfolding is_empty
zero_bits_lem w h =
    by_test (eqb w 0)
    (λ e. e ∙ sym (rw (eqb-true w 0 e) (ap is_empty (no_set_bits 32) ∙ empty)))
    (λ e. e ∙ sym (some-bit (set_bits 32 w) (λ q. absurd (eqb-false w 0 e (bits_ext_below 32 w 0 h (omega arith) (no-bit q))))))
  where
    no-bit : set_bits 32 w ≡ [] → (k : ℕ) → k < 32 → bit w k ≡ bit 0 k
    no-bit q k l = keep-nil (bit w) (count 0 32) q k (count-member 0 32 k (omega arith) (omega arith)) ∙ sym (bit_of_zero k)

    empty : is_empty [] ≡ true
    empty = refl

    some-bit : (l : List ℕ) → (l ≡ [] → ⊥) → is_empty l ≡ false
    some-bit [] n = absurd (n refl)
    some-bit (x ∷ l) n = refl

-- ---- both mechanisms

pub not-below : (f : Function) (s : Shape) (t p : List ℕ) (r : Bool) → r ≡ ltb f.waiting (2 ^ msi_vectors s) → not r ≡ true → false ≡ waits_below s (endpoint_of f t p)
unfolding waits_below
not-below f s t p r e n = rw (← e, not-true r n)

pub both_below : (f : Function) (s : Shape) (t p : List ℕ) (r b : Bool) → r ≡ ltb f.waiting (2 ^ msi_vectors s) → not r ≡ false
    → b ≡ all (λ v. not (pending_bit p v)) (count s.msix.vectors (8 * length p - s.msix.vectors)) → b ≡ waits_below s (endpoint_of f t p)
unfolding waits_below
both_below f s t p r b e n q = q ∙ beyond-waits (endpoint_of f t p) (count s.msix.vectors (8 * length p - s.msix.vectors)) ∙ rw (← e, not-false r n)

-- ---- nothing is owed

pub owed-mode : (m : Mode) (s : Shape) (u : Endpoint) → mode_of s (registers u) ≡ m → owed m s u ≡ owed_now s u
unfolding owed_now
owed-mode m s u e = rw e

pub pin-idle : (s : Shape) (u : Endpoint) → mode_of s (registers u) ≡ Pin → true ≡ is_empty (owed_now s u)
unfolding owed_now owed vector_count keep count is_empty
pin-idle s u e = rw e

pub msi-idle : (s : Shape) (u : Endpoint) (w : ℕ) → mode_of s (registers u) ≡ Msi → owed Msi s u ≡ set_bits 32 w → w < 2 ^ 32 → eqb w 0 ≡ is_empty (owed_now s u)
msi-idle s u w e q h = zero_bits_lem w h ∙ ap is_empty (sym q ∙ owed-mode Msi s u e)

pub msix-idle : (s : Shape) (u : Endpoint) (r : Bool) → mode_of s (registers u) ≡ Msix → msix_enabled s (registers u) ≡ true → length u.table ≡ table_bytes s
    → r ≡ is_empty (owed_entries u.table u.pending (entries u.table)) → r ≡ is_empty (owed_now s u)
msix-idle s u r e on fit q = q ∙ ap is_empty (sym (owed_here s u on fit) ∙ owed-mode Msix s u e)

pub msix_off : (s : Shape) (u : Endpoint) → mode_of s (registers u) ≡ Msix → msix_enabled s (registers u) ≡ false → true ≡ is_empty (owed_now s u)
unfolding is_empty
msix_off s u e off = ap is_empty (sym (owed_shut s u off) ∙ owed-mode Msix s u e)
