-- Bits stored as 0 are no writable ones, so every write and every start leaves them 0. Assumes nothing.
use mathlib.Core.Path.{◌≡◌, refl, sym, ap, ◌∙◌}
use mathlib.Core.Bool.{Bool, true, false, not, cond, ◌&&◌, true≢false}
use mathlib.Core.List.{List}
use Prim.Native.Nat.{ℕ, ◌+◌, ◌-◌, ◌%◌, ◌≤◌, ◌<◌}
use native.Mathlib.Omega.{arith}
use lib.Bits.{bit_and, and_zero_r}
use lib.Dec.{ltb, eqb}
use lib.ListN.{length}
use borrow.Author.Tests.{eqb-true, eq-eqb, ne_eqb, le-ltb}
use Rattle.words.specs.Lists.{within, first_of}
use Rattle.words.specs.Bits.{bit, clear, merge}
use Rattle.words.specs.Bytes.{byte}
use Rattle.words.proofs.BitLaws.{bits_ext, bit-and, bit-clear, bit-merge, bit_of_zero}
use Rattle.words.proofs.BoolLaws.{both, by_test, cond_elim}
use Rattle.words.proofs.ListLaws.{within-true, not_within, all-at, at_all}
use Rattle.model.specs.declared.Form.{Form}
use Rattle.model.specs.declared.Shape.{Shape}
use Rattle.model.specs.Shape.{form_of, forms}
use Rattle.model.specs.Registers.{writable, stored_zero, fixed_byte, header_writable, header_zero, entry_writable, entry_zero, written, started_config}
use Rattle.model.specs.Registers.{data_bytes, msi_writable, msi_zero, mask_bytes, in_mask, in_pending_register, in_msi, in_msix, msix_writable}
use Rattle.model.specs.Sound.{zero_bits}
use Rattle.model.proofs.Registers.WriteLaws.{length-written, byte-written}
use Rattle.model.proofs.Registers.FixedLaws.{length-started, byte-started}

-- two masks have no bit in common
abbrev pub Disjoint : ℕ → ℕ → Type 0
Disjoint a b = (k : ℕ) → (bit a k && bit b k) ≡ false

no_and : (a b : ℕ) → Disjoint a b → bit_and a b ≡ 0
no_and a b d = bits_ext (bit_and a b) 0 λ k. bit-and a b k ∙ d k ∙ sym (bit_of_zero k)

and_no : (a b : ℕ) → bit_and a b ≡ 0 → Disjoint a b
and_no a b e k = sym (bit-and a b k) ∙ ap (λ (x : ℕ). bit x k) e ∙ bit_of_zero k

zero_right : (a : ℕ) → Disjoint a 0
zero_right a = and_no a 0 (and_zero_r a)

zero_left : (b : ℕ) → Disjoint 0 b
zero_left b k = rw (bit_of_zero k)

-- the bits of a number, and what is left of another without them
clear_apart : (a x : ℕ) → Disjoint a (clear a x)
clear_apart a x k = ap (λ (b : Bool). bit a k && b) (bit-clear a x k) ∙ go (bit a k) (bit x k)
  where
    go : (a b : Bool) → (a && (b && not a)) ≡ false
    go true true = refl
    go true false = refl
    go false b = refl

-- ---- the places of the forms with masks

record Masked (f : Form) : Type 0 where
  behind : 12 ≤ f.mask
  free : f.message + 4 ≤ f.mask
  next : f.pending ≡ f.mask + 4

masked-form : (s : Shape) → s.msi.masks ≡ true → Masked (form_of s)
unfolding form_of forms
masked-form s e = let f = go s.msi.wide in rw e (record { behind = f.behind; free = f.free; next = f.next })
  where
    go : (w : Bool) → Masked (forms true w)
    go false = record { behind = omega arith; free = omega arith; next = refl }
    go true = record { behind = omega arith; free = omega arith; next = refl }

and_no_right : (a b : Bool) → b ≡ false → (a && b) ≡ false
and_no_right true b e = e
and_no_right false b e = refl

-- from byte 8 on: the upper address, the data, the masks
pub past_address : (s : Shape) (k : ℕ) → 8 ≤ k
    → msi_writable s k ≡ cond (s.msi.wide && ltb k 12) 0xff
    (cond (within (form_of s).message (data_bytes s) k) 0xff (cond (in_mask s k) (byte (mask_bytes s) (k - (form_of s).mask)) 0))
unfolding msi_writable first_of
past_address s k h = rw (ne_eqb k 2 (omega arith), ne_eqb k 3 (omega arith), le-ltb k 4 (omega arith), ne_eqb k 4 (omega arith), le-ltb k 8 h)

-- from byte 12 on, and behind the data register: only the masks are writable
behind_data : (s : Shape) (k : ℕ) → 12 ≤ k → (form_of s).message + 4 ≤ k → msi_writable s k ≡ cond (in_mask s k) (byte (mask_bytes s) (k - (form_of s).mask)) 0
unfolding data_bytes
behind_data s k h j =
    past_address s k (omega arith)
    ∙ rw (and_no_right s.msi.wide (ltb k 12) (le-ltb k 12 h), not_within (form_of s).message (cond s.msi.extended 4 2) k (data_end s.msi.extended))
  where
    data_end : (e : Bool) → (form_of s).message + cond e 4 2 ≤ k
    data_end true = j
    data_end false = omega arith

in-mask : (s : Shape) (k : ℕ) → in_mask s k ≡ true → Disjoint (msi_writable s k) (msi_zero s k)
unfolding in_mask msi_zero first_of
in-mask s k e =
    let p = both s.msi.masks (within (form_of s).mask 4 k) e in
    let f = masked-form s p.0 in
    let w = within-true (form_of s).mask 4 k p.1 in
    rw (behind_data s k (omega (arith, f.behind)) (omega (arith, f.free)), ne_eqb k 4 (omega (arith, f.behind)), le-ltb k 8 (omega (arith, f.behind)), e)
    (clear_apart (byte (mask_bytes s) (k - (form_of s).mask)) 0xff)

in-pending : (s : Shape) (k : ℕ) → in_pending_register s k ≡ true → msi_writable s k ≡ 0
unfolding in_pending_register in_mask
in-pending s k e =
    let p = both s.msi.masks (within (form_of s).pending 4 k) e in
    let f = masked-form s p.0 in
    let w = within-true (form_of s).pending 4 k p.1 in
    rw (behind_data s k (omega (arith, f.behind, f.next)) (omega (arith, f.free, f.next)), not_within (form_of s).mask 4 k (omega (arith, f.next)), p.0)

-- ---- writable bits and bits stored as 0

-- address bits 31:2, and 1:0
address : (s : Shape) → Disjoint (msi_writable s 4) (msi_zero s 4)
unfolding msi_writable msi_zero first_of clear
address s = clear_apart 0xfc 0xff

no_zero : (s : Shape) (k : ℕ) → eqb k 4 ≡ false → in_mask s k ≡ false → in_pending_register s k ≡ false → msi_zero s k ≡ 0
unfolding msi_zero first_of
no_zero s k e a b = rw (e, a, b) (cond_elim (λ (n : ℕ). n ≡ 0) (ltb k 8) (λ _. refl) (λ _. refl))

disjoint_msi : (s : Shape) (k : ℕ) → Disjoint (msi_writable s k) (msi_zero s k)
disjoint_msi s k =
    by_test (in_mask s k) (in-mask s k)
    (λ a. by_test (in_pending_register s k) (λ e. rw (in-pending s k e) (zero_left (msi_zero s k)))
    (λ b. by_test (eqb k 4) (λ e. rw (eqb-true k 4 e) (address s)) (λ e. rw (no_zero s k e a b) (zero_right (msi_writable s k)))))

disjoint_header : (i : ℕ) → Disjoint (header_writable i) (header_zero i)
unfolding header_writable header_zero first_of
disjoint_header i =
    by_test (eqb i 6) (λ e. rw (eqb-true i 6 e) (zero_left 8))
    (λ e. rw e (zero_right (cond (eqb i 4) 6 (cond (eqb i 5) 4 (cond (eqb i 0x3c) 0xff 0)))))

pub disjoint : (s : Shape) (i : ℕ) → Disjoint (writable s i) (stored_zero s i)
unfolding writable stored_zero
disjoint s i = go (ltb i 64) (in_msi s i)
  where
    rest : ℕ
    rest = cond (in_msix s i) (msix_writable (i - s.msix.at)) 0

    go : (h m : Bool) → Disjoint (cond h (header_writable i) (cond m (msi_writable s (i - s.msi.at)) (cond (in_msix s i) (msix_writable (i - s.msix.at)) 0)))
        (cond h (header_zero i) (cond m (msi_zero s (i - s.msi.at)) 0))
    go true m = disjoint_header i
    go false true = disjoint_msi s (i - s.msi.at)
    go false false = zero_right (cond (in_msix s i) (msix_writable (i - s.msix.at)) 0)

pub disjoint_entry : (i : ℕ) → Disjoint (entry_writable i) (entry_zero i)
unfolding entry_writable entry_zero first_of clear
disjoint_entry i = go (eqb (i % 16) 0) (ltb (i % 16) 12) (eqb (i % 16) 12)
  where
    go : (a b c : Bool) → Disjoint (cond a 0xfc (cond b 0xff (cond c 0x01 0))) (cond a 0x03 (cond b 0x00 (cond c 0xfe (cond true 0xff 0))))
    go true b c = clear_apart 0xfc 0xff
    go false true c = zero_right 0xff
    go false false true = clear_apart 0x01 0xff
    go false false false = zero_left 0xff

-- ---- a write leaves the bits stored as 0

merged_zero : (m z old new : ℕ) → Disjoint m z → bit_and z old ≡ 0 → bit_and z (merge m old new) ≡ 0
merged_zero m z old new d e =
    no_and z (merge m old new) λ k. ap (λ (b : Bool). bit z k && b) (bit-merge m old new k) ∙ go (bit m k) (bit z k) (bit new k) (bit old k) (d k) (and_no z old e k)
  where
    go : (m z n o : Bool) → (m && z) ≡ false → (z && o) ≡ false → (z && cond m n o) ≡ false
    go true true n o d e = absurd (true≢false d)
    go true false n o d e = refl
    go false z n o d e = e

pub zero-written : (mask none : ℕ → ℕ) → ((i : ℕ) → Disjoint (mask i) (none i)) → (l : List ℕ) (o : ℕ) (bs : List ℕ)
    → zero_bits none l ≡ true → zero_bits none (written mask l o bs) ≡ true
unfolding zero_bits
zero-written mask none d l o bs e =
    at_all (λ i b. eqb (bit_and (none i) b) 0) (written mask l o bs)
    λ k h.
    let j : k < length l = omega (arith, length-written mask l o bs) in
    let z : bit_and (none k) (byte l k) ≡ 0 = eqb-true (bit_and (none k) (byte l k)) 0 (all-at (λ i b. eqb (bit_and (none i) b) 0) l k e j) in
    eq-eqb (bit_and (none k) (byte (written mask l o bs) k)) 0
    (ap (bit_and (none k)) (byte-written mask l o bs k j)
    ∙ cond_elim (λ (x : ℕ). bit_and (none k) x ≡ 0) (within o (length bs) k) (λ _. merged_zero (mask k) (none k) (byte l k) (byte bs (k - o)) (d k) z) (λ _. z))

-- ---- a started card has them 0

fixed_zero : (s : Shape) (i b : ℕ) → bit_and (stored_zero s i) (fixed_byte s i b) ≡ 0
unfolding fixed_byte
fixed_zero s i b =
    no_and (stored_zero s i) (clear (writable s i) (clear (stored_zero s i) b))
    λ k.
    ap (λ (t : Bool). bit (stored_zero s i) k && t)
    (bit-clear (writable s i) (clear (stored_zero s i) b) k ∙ ap (λ (t : Bool). t && not (bit (writable s i) k)) (bit-clear (stored_zero s i) b k))
    ∙ go (bit (stored_zero s i) k) (bit b k) (bit (writable s i) k)
  where
    go : (z b w : Bool) → (z && ((b && not z) && not w)) ≡ false
    go true true w = refl
    go true false w = refl
    go false b w = refl

pub zero-started : (s : Shape) (c : List ℕ) → zero_bits (stored_zero s) (started_config s c) ≡ true
unfolding zero_bits
zero-started s c =
    at_all (λ i b. eqb (bit_and (stored_zero s i) b) 0) (started_config s c)
    λ k h. eq-eqb (bit_and (stored_zero s k) (byte (started_config s c) k)) 0
    (ap (bit_and (stored_zero s k)) (byte-started s c k (omega (arith, length-started s c))) ∙ fixed_zero s k (byte c k))
