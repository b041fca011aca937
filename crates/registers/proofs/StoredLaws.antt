-- Bits stored as 0 stand at few places: a test of those places is a test of all. Assumes nothing.
use mathlib.Core.Path.{◌≡◌, refl, sym, ap, ap₂, ◌∙◌}
use mathlib.Core.Bool.{Bool, true, false, ◌&&◌, true≢false}
use mathlib.Core.List.{List}
use Prim.Native.Nat.{ℕ, ◌+◌, ◌-◌, ◌%◌, ◌^◌, ◌≤◌, ◌<◌}
use native.Mathlib.Omega.{arith}
use lib.Bits.{bit_and, bit_or, and_comm, and_zero_l, and_mask}
use lib.Dec.{ltb, eqb}
use lib.ListN.{length}
use lib.Pow.{pow_mono}
use borrow.Author.Tests.{eq-eqb, ne_eqb, eqb-true, ltb-true, ltb-false}
use Rattle.words.specs.Lists.{all, count, within, first_of}
use Rattle.words.specs.Bits.{clear}
use Rattle.words.specs.Bytes.{byte, number, word32}
use Rattle.words.proofs.BitLaws.{clear-le}
use Rattle.words.proofs.BoolLaws.{both, and_intro, same_test, by_test, cond_elim}
use Rattle.words.proofs.ByteLaws.{number_shift, number_lt}
use Rattle.words.proofs.ListLaws.{all-below, all_holds, holds_all, count-member, member-count, within-true, true-within, not_within}
use Rattle.words.proofs.NumberBits.{not-number}
use Rattle.words.proofs.ZeroBits.{clean, clean_word, or-none}
use Rattle.model.specs.declared.Form.{Form}
use Rattle.model.specs.declared.Shape.{Shape}
use Rattle.model.specs.Shape.{form_of, msi_present}
use Rattle.model.specs.Registers.{header_zero, msi_zero, mask_bytes, in_mask, in_pending_register, in_msi, stored_zero}
use Rattle.model.specs.Sound.{zero_bits}
use Rattle.model.proofs.Shapes.PlaceLaws.{in-msi, size_large}
use Rattle.model.proofs.Shapes.FitLaws.{size_small}
use Rattle.layout.proofs.Checks.{msi_there, msi_absent}
use Rattle.registers.specs.Bounds.{MsiBounds}
use Rattle.registers.proofs.CleanLaws.{zero_bits_lem}
use Rattle.registers.proofs.MaskLaws.{masked, in-mask, in-pending, low-zero, high_zero, header-byte, msi-byte, other_byte}

-- ---- the masks are bytes

msi-zero-byte : (s : Shape) (k : ℕ) → msi_zero s k < 256
unfolding msi_zero first_of
msi-zero-byte s k =
    cond_elim (λ (n : ℕ). n < 256) (eqb k 4) (λ _. omega arith)
    (λ _. cond_elim (λ (n : ℕ). n < 256) (ltb k 8) (λ _. omega arith)
    (λ _. cond_elim (λ (n : ℕ). n < 256) (in_mask s k) (λ _. omega (arith, clear-le (byte (mask_bytes s) (k - (form_of s).mask)) 0xff))
    (λ _. cond_elim (λ (n : ℕ). n < 256) (in_pending_register s k) (λ _. omega arith) (λ _. omega arith))))

zero-byte : (s : Shape) (i : ℕ) → stored_zero s i < 256
unfolding stored_zero header_zero
zero-byte s i =
    cond_elim (λ (n : ℕ). n < 256) (ltb i 64) (λ _. cond_elim (λ (n : ℕ). n < 256) (eqb i 6) (λ _. omega arith) (λ _. omega arith))
    (λ _. cond_elim (λ (n : ℕ). n < 256) (in_msi s i) (λ _. msi-zero-byte s (i - s.msi.at)) (λ _. omega arith))

-- ---- byte i is clean

abbrev pub ok : Shape → List ℕ → ℕ → Bool
ok s c = clean (stored_zero s) c

no_bits_lem : (s : Shape) (c : List ℕ) (i : ℕ) → stored_zero s i ≡ 0 → ok s c i ≡ true
no_bits_lem s c i e = ap (λ (m : ℕ). eqb (bit_and m (byte c i)) 0) e ∙ ap (λ (m : ℕ). eqb m 0) (and_zero_l (byte c i))

from_run : (s : Shape) (c : List ℕ) (a i : ℕ) → all (ok s c) (count a 4) ≡ true → a ≤ i → i < a + 4 → ok s c i ≡ true
from_run s c a i e h j = all_holds (ok s c) (count a 4) e i (count-member a 4 i h j)

module _ (s : Shape) (c : List ℕ) (status : ok s c 6 ≡ true) where
  in_header : (i : ℕ) → i < 64 → ok s c i ≡ true
  in_header i h =
      by_test (eqb i 6) (λ e. ap (ok s c) (eqb-true i 6 e) ∙ status) (λ e. no_bits_lem s c i ((header-byte s i h).1 ∙ rw e))

  module _ (address : msi_present s ≡ true → ok s c (s.msi.at + 4) ≡ true)
      (masks : msi_present s ≡ true → s.msi.masks ≡ true → all (ok s c) (count (s.msi.at + (form_of s).mask) 4) ≡ true)
      (pending : msi_present s ≡ true → s.msi.masks ≡ true → all (ok s c) (count (s.msi.at + (form_of s).pending) 4) ≡ true) where
    low : (i k : ℕ) → i ≡ s.msi.at + k → msi_present s ≡ true → stored_zero s i ≡ msi_zero s k → k < 8 → ok s c i ≡ true
    low i k p t e h =
        by_test (eqb k 4)
        (λ q. let r : i ≡ s.msi.at + 4 = omega (arith, eqb-true k 4 q) in ap (ok s c) r ∙ address t)
        (λ q. no_bits_lem s c i (e ∙ low-zero s k h ∙ rw q))

    high : (i k : ℕ) → i ≡ s.msi.at + k → msi_present s ≡ true → stored_zero s i ≡ msi_zero s k → 8 ≤ k → ok s c i ≡ true
    unfolding in_mask in_pending_register
    high i k p t e h =
        by_test (within (form_of s).mask 4 k)
        (λ q. let w = within-true (form_of s).mask 4 k q in
        from_run s c (s.msi.at + (form_of s).mask) i
        (masks t (both s.msi.masks (within (form_of s).mask 4 k) (in-mask s k (omega arith) ∙ q)).0) (omega arith) (omega arith))
        (λ q. by_test (within (form_of s).pending 4 k)
        (λ r. let w = within-true (form_of s).pending 4 k r in
        from_run s c (s.msi.at + (form_of s).pending) i
        (pending t (both s.msi.masks (within (form_of s).pending 4 k) (in-pending s k (omega arith) ∙ r)).0) (omega arith) (omega arith))
        (λ r. no_bits_lem s c i (e ∙ high_zero s k h ∙ rw (q, r))))

    in-capability : (i : ℕ) → 64 ≤ i → within s.msi.at (form_of s).size i ≡ true → ok s c i ≡ true
    in-capability i h w =
        let v = within-true s.msi.at (form_of s).size i w in
        let t : msi_present s ≡ true = msi_there s (λ z. omega (arith, size_small s)) in
        let e = (msi-byte s i (form_of s).size refl h w).1 in
        let k = i - s.msi.at in
        by_test (ltb k 8) (λ q. low i k (omega arith) t e (ltb-true k 8 q)) (λ q. high i k (omega arith) t e (ltb-false k 8 q))

    pub each : (i : ℕ) → ok s c i ≡ true
    each i =
        by_test (ltb i 64) (λ q. in_header i (ltb-true i 64 q))
        (λ q. let h : 64 ≤ i = ltb-false i 64 q in
        by_test (within s.msi.at (form_of s).size i) (in-capability i h) (λ w. no_bits_lem s c i (other_byte s i (form_of s).size refl h w).1))

-- ---- all of the configuration

module _ (s : Shape) (c : List ℕ) (n : length c ≡ 256) where
  -- one byte is not clean
  not-clean : (i : ℕ) → i < 256 → ok s c i ≡ false → false ≡ zero_bits (stored_zero s) c
  not-clean i h e =
      by_test (zero_bits (stored_zero s) c)
      (λ t. absurd (true≢false (sym (all-below (ok s c) 256 i (sym (zero_bits_lem (stored_zero s) c 256 n) ∙ t) h) ∙ e)))
      (λ t. sym t)

  all-clean : ((i : ℕ) → ok s c i ≡ true) → zero_bits (stored_zero s) c ≡ true
  all-clean h = zero_bits_lem (stored_zero s) c 256 n ∙ holds_all (ok s c) (count 0 256) (λ i m. h i)

  run-clean : (a : ℕ) → a + 4 ≤ 256 → zero_bits (stored_zero s) c ≡ true → all (ok s c) (count a 4) ≡ true
  run-clean a h t =
      holds_all (ok s c) (count a 4)
      (λ i m. all-below (ok s c) 256 i (sym (zero_bits_lem (stored_zero s) c 256 n) ∙ t) (omega (arith, (member-count a 4 i m).1)))

  -- the test of one byte, by its mask
  by_mask : (i m : ℕ) → stored_zero s i ≡ m → bit_and (byte c i) m ≡ 0 → ok s c i ≡ true
  by_mask i m e z = eq-eqb (bit_and (stored_zero s i) (byte c i)) 0 (ap (λ (x : ℕ). bit_and x (byte c i)) e ∙ and_comm m (byte c i) ∙ z)

  not_by_mask : (i m : ℕ) → stored_zero s i ≡ m → (bit_and (byte c i) m ≡ 0 → ⊥) → ok s c i ≡ false
  not_by_mask i m e z =
      ne_eqb (bit_and (stored_zero s i) (byte c i)) 0 (λ q. z (and_comm (byte c i) m ∙ ap (λ (x : ℕ). bit_and x (byte c i)) (sym e) ∙ q))

  -- Status
  status_mask : stored_zero s 6 ≡ 0x08
  unfolding stored_zero header_zero
  status_mask = refl

  pub status_set : (bit_and (byte c 6) 0x08 ≡ 0 → ⊥) → false ≡ zero_bits (stored_zero s) c
  status_set z = not-clean 6 (omega arith) (not_by_mask 6 0x08 status_mask z)

  module _ (status : bit_and (byte c 6) 0x08 ≡ 0) where
    -- no MSI
    pub absent : s.msi.at ≡ 0 → true ≡ zero_bits (stored_zero s) c
    absent e =
        let no : msi_present s ≡ true → ⊥ = λ t. true≢false (sym t ∙ msi_absent s e) in
        sym (all-clean (each s c (by_mask 6 0x08 status_mask status) (λ t. absurd (no t)) (λ t. absurd (no t)) (λ t. absurd (no t))))

    module _ (b : MsiBounds s) (p : s.msi.at ≡ 0 → ⊥) where
      above : 64 ≤ s.msi.at
      above = b.high (msi_there s p)

      address-mask : stored_zero s (s.msi.at + 4) ≡ 0x03
      address-mask = (in-msi s (s.msi.at + 4) 4 above refl (omega (arith, size_large s))).1 ∙ low-zero s 4 (omega arith)

      pub address-set : (bit_and (byte c (s.msi.at + 4)) 0x03 ≡ 0 → ⊥) → false ≡ zero_bits (stored_zero s) c
      address-set z = not-clean (s.msi.at + 4) (omega (arith, b.ends, size_large s)) (not_by_mask (s.msi.at + 4) 0x03 address-mask z)

      module _ (address : bit_and (byte c (s.msi.at + 4)) 0x03 ≡ 0) where
        present : (s.msi.masks ≡ true → (all (ok s c) (count (s.msi.at + (form_of s).mask) 4) ≡ true) × (all (ok s c) (count (s.msi.at + (form_of s).pending) 4) ≡ true))
            → zero_bits (stored_zero s) c ≡ true
        present h =
            all-clean (each s c (by_mask 6 0x08 status_mask status) (λ t. by_mask (s.msi.at + 4) 0x03 address-mask address) (λ t m. (h m).0) (λ t m. (h m).1))

        -- no masks
        pub unmasked : s.msi.masks ≡ false → true ≡ zero_bits (stored_zero s) c
        unmasked e = sym (present (λ m. absurd (true≢false (sym m ∙ e))))

        both_runs : s.msi.masks ≡ true
            → (all (ok s c) (count (s.msi.at + (form_of s).mask) 4) && all (ok s c) (count (s.msi.at + (form_of s).pending) 4)) ≡ zero_bits (stored_zero s) c
        both_runs m =
            let x : Bool = all (ok s c) (count (s.msi.at + (form_of s).mask) 4) in
            let y : Bool = all (ok s c) (count (s.msi.at + (form_of s).pending) 4) in
            same_test (x && y) (zero_bits (stored_zero s) c) (λ t. present (λ _. both x y t))
            (λ t. and_intro x y (run-clean (s.msi.at + (form_of s).mask) (omega (arith, (masked s m).next, (masked s m).last, b.ends)) t)
            (run-clean (s.msi.at + (form_of s).pending) (omega (arith, (masked s m).last, b.ends)) t))

        module _ (bytes : (i : ℕ) → byte c i < 256) (m : s.msi.masks ≡ true) where
          -- the register at byte k of the capability, whose mask is the number x
          register : (k x w : ℕ) → number (stored_zero s) (s.msi.at + k) 4 ≡ x → w ≡ word32 c (s.msi.at + k)
              → eqb (bit_and w x) 0 ≡ all (ok s c) (count (s.msi.at + k) 4)
          unfolding word32
          register k x w e d =
              ap (λ (y : ℕ). eqb y 0) (and_comm w x ∙ ap₂ bit_and (sym e) d) ∙ clean_word (stored_zero s) c (zero-byte s) bytes (s.msi.at + k) 4

          stored_at : (k : ℕ) → k < (form_of s).size → stored_zero s (s.msi.at + k) ≡ msi_zero s k
          stored_at k h = (in-msi s (s.msi.at + k) k above refl h).1

          mask_at : (j : ℕ) → j < 4 → stored_zero s (s.msi.at + (form_of s).mask + j) ≡ clear (byte (mask_bytes s) (0 + j)) 0xff
          mask_at j h =
              let k : ℕ = (form_of s).mask + j in
              let x : s.msi.at + (form_of s).mask + j ≡ s.msi.at + k = omega arith in
              let y : k - (form_of s).mask ≡ 0 + j = omega arith in
              ap (stored_zero s) x ∙ stored_at k (omega (arith, (masked s m).next, (masked s m).last)) ∙ high_zero s k (omega (arith, (masked s m).behind))
              ∙ rw (true-within (form_of s).mask 4 k (omega arith) (omega arith), y)

          pending-at : (j : ℕ) → j < 4 → stored_zero s (s.msi.at + (form_of s).pending + j) ≡ 0xff
          pending-at j h =
              let k : ℕ = (form_of s).pending + j in
              let x : s.msi.at + (form_of s).pending + j ≡ s.msi.at + k = omega arith in
              ap (stored_zero s) x ∙ stored_at k (omega (arith, (masked s m).last)) ∙ high_zero s k (omega (arith, (masked s m).behind, (masked s m).next))
              ∙ rw (not_within (form_of s).mask 4 k (omega (arith, (masked s m).next)), true-within (form_of s).pending 4 k (omega arith) (omega arith))

          mask-number : number (stored_zero s) (s.msi.at + (form_of s).mask) 4 ≡ 4294967295 - (2 ^ (2 ^ s.msi.capable) - 1)
          unfolding mask_bytes
          mask-number =
              let a : 2 ^ s.msi.capable ≤ 2 ^ 5 = pow_mono b.capable in
              let x : 2 ^ (2 ^ s.msi.capable) ≤ 2 ^ 32 = pow_mono a in
              number_shift (stored_zero s) (λ k. clear (byte (mask_bytes s) k) 0xff) (s.msi.at + (form_of s).mask) 0 4 mask_at
              ∙ not-number 4 (2 ^ (2 ^ s.msi.capable) - 1) (omega arith)

          pending-number : number (stored_zero s) (s.msi.at + (form_of s).pending) 4 ≡ 4294967295
          unfolding number
          pending-number = number_shift (stored_zero s) (λ k. 0xff) (s.msi.at + (form_of s).pending) 0 4 pending-at

          whole : (v : ℕ) → v ≡ word32 c (s.msi.at + (form_of s).pending) → bit_and v 4294967295 ≡ v
          unfolding word32
          whole v e =
              let h : number (byte c) (s.msi.at + (form_of s).pending) 4 < 4294967296 = number_lt (byte c) (s.msi.at + (form_of s).pending) 4 bytes in
              and_mask v 32 ∙ (let q : v % 4294967296 ≡ v = omega arith in q)

          words : (w v : ℕ) → w ≡ word32 c (s.msi.at + (form_of s).mask) → v ≡ word32 c (s.msi.at + (form_of s).pending)
              → eqb (bit_or (bit_and w (4294967295 - (2 ^ (2 ^ s.msi.capable) - 1))) v) 0 ≡ zero_bits (stored_zero s) c
          words w v d e =
              let x : ℕ = 4294967295 - (2 ^ (2 ^ s.msi.capable) - 1) in
              or-none (bit_and w x) v
              ∙ ap₂ ◌&&◌ (register (form_of s).mask x w mask-number d)
              (ap (λ (y : ℕ). eqb y 0) (sym (whole v e)) ∙ register (form_of s).pending 4294967295 v pending-number e)
              ∙ both_runs m

          -- the Mask register w and the Pending register v
          pub registers : (f : Form) → f ≡ form_of s → (bits w v : ℕ) → bits ≡ 2 ^ (2 ^ s.msi.capable) - 1 → w ≡ word32 c (s.msi.at + f.mask)
              → v ≡ word32 c (s.msi.at + f.pending) → eqb (bit_or (bit_and w (4294967295 - bits)) v) 0 ≡ zero_bits (stored_zero s) c
          registers f e bits w v q d t =
              ap (λ (x : ℕ). eqb (bit_or (bit_and w (4294967295 - x)) v) 0) q
              ∙ words w v (d ∙ ap (λ (g : Form). word32 c (s.msi.at + g.mask)) e) (t ∙ ap (λ (g : Form). word32 c (s.msi.at + g.pending)) e)
