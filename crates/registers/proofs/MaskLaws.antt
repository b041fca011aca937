-- The masks of the configuration's bytes, as the code tests for them. Assumes nothing.
use mathlib.Core.Path.{◌≡◌, refl, sym, ap, ◌∙◌}
use mathlib.Core.Bool.{Bool, true, false, not, cond, ◌&&◌, ◌||◌, or-false, and-false, true≢false}
use Prim.Native.Nat.{ℕ, ◌+◌, ◌-◌, ◌≤◌, ◌<◌}
use native.Mathlib.Omega.{arith}
use lib.Dec.{ltb, eqb}
use borrow.Author.Tests.{ne_eqb, eqb-true, lt-ltb, le-ltb, not-false}
use Rattle.words.specs.Lists.{within, first_of}
use Rattle.words.specs.Bits.{clear}
use Rattle.words.specs.Bytes.{byte}
use Rattle.words.proofs.BoolLaws.{three_rows}
use Rattle.words.proofs.ListLaws.{absent_apart, below_more, below_longer}
use Rattle.model.specs.declared.Form.{Form}
use Rattle.model.specs.declared.Shape.{Shape}
use Rattle.model.specs.Shape.{form_of, forms, msi_present, msix_present}
use Rattle.model.specs.Registers.{header_writable, header_zero, data_bytes, msi_writable, msi_zero, msix_writable, mask_bytes, in_mask, in_pending_register, in_msi, in_msix, writable, stored_zero}
use Rattle.model.proofs.Shapes.FitLaws.{size_small}

-- ---- the four forms

record Places (f : Form) (masks wide : Bool) : Type 0 where
  message : f.message ≡ cond wide 12 8
  mask : masks ≡ false → f.mask ≡ 0
  pending : masks ≡ false → f.pending ≡ 0

places : (s : Shape) → Places (form_of s) s.msi.masks s.msi.wide
unfolding form_of forms
places s = let p = go s.msi.masks s.msi.wide in record { message = p.message; mask = p.mask; pending = p.pending }
  where
    go : (masks wide : Bool) → Places (forms masks wide) masks wide
    go false false = record { message = refl; mask = λ e. refl; pending = λ e. refl }
    go false true = record { message = refl; mask = λ e. refl; pending = λ e. refl }
    go true false = record { message = refl; mask = λ e. absurd (true≢false e); pending = λ e. absurd (true≢false e) }
    go true true = record { message = refl; mask = λ e. absurd (true≢false e); pending = λ e. absurd (true≢false e) }

-- a form with masks ends with the Mask and the Pending register
pub record Masked (f : Form) : Type 0 where
  pub behind : 12 ≤ f.mask
  pub next : f.pending ≡ f.mask + 4
  pub last : f.size ≡ f.pending + 4

pub masked : (s : Shape) → s.msi.masks ≡ true → Masked (form_of s)
unfolding form_of forms
masked s e =
    let m = go s.msi.wide in
    let n : (s.msi.extended && false) ≡ false = and-false s.msi.extended in
    rw e (record { behind = m.behind; next = m.next; last = rw n (let z : (forms true s.msi.wide).size + 0 ≡ (forms true s.msi.wide).size = omega arith in z ∙ m.last) })
  where
    go : (w : Bool) → Masked (forms true w)
    go false = record { behind = omega arith; next = refl; last = refl }
    go true = record { behind = omega arith; next = refl; last = refl }

-- address, upper address and data have no gap between them
data_run : (wide : Bool) (n k : ℕ) → ((ltb k 8 || (wide && ltb k 12)) || within (cond wide 12 8) n k) ≡ ltb k (cond wide 12 8 + n)
data_run false n k = ap (λ (b : Bool). b || within 8 n k) (or-false (ltb k 8)) ∙ below_more 8 n k
data_run true n k = ap (λ (b : Bool). b || within 12 n k) (below_longer 8 12 k (omega arith)) ∙ below_more 12 n k

-- ---- byte k of the MSI capability

module _ (s : Shape) (k : ℕ) where
  pub in-mask : 4 ≤ k → in_mask s k ≡ within (form_of s).mask 4 k
  unfolding in_mask
  in-mask h = absent_apart s.msi.masks (form_of s).mask 4 k (places s).mask h

  pub in-pending : 4 ≤ k → in_pending_register s k ≡ within (form_of s).pending 4 k
  unfolding in_pending_register
  in-pending h = absent_apart s.msi.masks (form_of s).pending 4 k (places s).pending h

  pub control-writable : k < 4 → msi_writable s k ≡ cond (eqb k 2) 0x71 (cond (eqb k 3) (cond s.msi.extended 0x04 0) 0)
  unfolding msi_writable first_of
  control-writable h = rw (lt-ltb k 4 h) (ap (λ (n : ℕ). cond (eqb k 2) 0x71 n) (both-rows (eqb k 3) s.msi.extended))
    where
      both-rows : (a b : Bool) → ◌≡◌ {A = ℕ} (cond (a && b) 0x04 0) (cond a (cond b 0x04 0) 0)
      both-rows true b = refl
      both-rows false b = refl

  pub address_writable : k ≡ 4 → msi_writable s k ≡ 0xfc
  unfolding msi_writable first_of
  address_writable e = rw e

  pub rest-writable : 5 ≤ k
      → msi_writable s k ≡ cond (ltb k ((form_of s).message + data_bytes s)) 0xff (cond (within (form_of s).mask 4 k) (byte (mask_bytes s) (k - (form_of s).mask)) 0)
  unfolding msi_writable first_of
  rest-writable h =
      let m : ℕ = cond (within (form_of s).mask 4 k) (byte (mask_bytes s) (k - (form_of s).mask)) 0 in
      let n : ℕ = data_bytes s in
      let e : ((ltb k 8 || (s.msi.wide && ltb k 12)) || within (form_of s).message n k) ≡ ltb k ((form_of s).message + n) =
      rw (places s).message (data_run s.msi.wide n k) in
      rw (ne_eqb k 2 (omega arith), ne_eqb k 3 (omega arith), le-ltb k 4 (omega arith), ne_eqb k 4 (omega arith), in-mask (omega arith))
      (three_rows (ltb k 8) (s.msi.wide && ltb k 12) (within (form_of s).message n k) 0xff m ∙ ap (λ (b : Bool). cond b 0xff m) e)

  pub low-zero : k < 8 → msi_zero s k ≡ cond (eqb k 4) 0x03 0
  unfolding msi_zero first_of
  low-zero h = rw (lt-ltb k 8 h)

  pub high_zero : 8 ≤ k → msi_zero s k ≡ cond (within (form_of s).mask 4 k) (clear (byte (mask_bytes s) (k - (form_of s).mask)) 0xff) (cond (within (form_of s).pending 4 k) 0xff 0)
  unfolding msi_zero first_of
  high_zero h = rw (ne_eqb k 4 (omega arith), le-ltb k 8 h, in-mask (omega arith), in-pending (omega arith))

-- ---- configuration byte i

module _ (s : Shape) (i : ℕ) where
  pub in-msi : 64 ≤ i → in_msi s i ≡ within s.msi.at (form_of s).size i
  unfolding in_msi msi_present
  in-msi h =
      absent_apart (not (eqb s.msi.at 0)) s.msi.at (form_of s).size i
      (λ e. eqb-true s.msi.at 0 (not-false (eqb s.msi.at 0) e)) (omega (arith, size_small s))

  pub in-msix : 64 ≤ i → in_msix s i ≡ within s.msix.at 12 i
  unfolding in_msix msix_present
  in-msix h =
      absent_apart (not (eqb s.msix.at 0)) s.msix.at 12 i
      (λ e. eqb-true s.msix.at 0 (not-false (eqb s.msix.at 0) e)) (omega arith)

  pub header-byte : i < 64 → (writable s i ≡ header_writable i) × (stored_zero s i ≡ cond (eqb i 6) 0x08 0)
  unfolding writable stored_zero header_zero
  header-byte h = (rw (lt-ltb i 64 h), rw (lt-ltb i 64 h))

  pub high-writable : 64 ≤ i → writable s i ≡
      cond (within s.msi.at (form_of s).size i) (msi_writable s (i - s.msi.at))
      (cond (within s.msix.at 12 i) (cond (eqb (i - s.msix.at) 3) 0xc0 0) 0)
  unfolding writable msix_writable
  high-writable h = rw (le-ltb i 64 h, in-msi h, in-msix h)

  pub high_stored : 64 ≤ i → stored_zero s i ≡ cond (within s.msi.at (form_of s).size i) (msi_zero s (i - s.msi.at)) 0
  unfolding stored_zero
  high_stored h = rw (le-ltb i 64 h, in-msi h)

-- ---- the ways out of the code: f is the form

pub data_most : (s : Shape) → data_bytes s ≤ 4
unfolding data_bytes
data_most s = go s.msi.extended
  where
    go : (b : Bool) → cond b 4 2 ≤ 4
    go true = omega arith
    go false = omega arith

module _ (s : Shape) (f : Form) (e : f ≡ form_of s) (k : ℕ) where
  pub data_byte : 5 ≤ k → k - data_bytes s < f.message → 0xff ≡ msi_writable s k
  data_byte h j =
      let l : ltb k ((form_of s).message + data_bytes s) ≡ true = rw (sym e) (lt-ltb k (f.message + data_bytes s) (omega (arith, data_most s))) in
      sym (rest-writable s k h ∙ rw l)

  behind : 5 ≤ k → f.message ≤ k - data_bytes s → msi_writable s k ≡ cond (within f.mask 4 k) (byte (mask_bytes s) (k - f.mask)) 0
  behind h j =
      let l : ltb k ((form_of s).message + data_bytes s) ≡ false = rw (sym e) (le-ltb k (f.message + data_bytes s) (omega (arith, data_most s))) in
      rest-writable s k h ∙ rw (l, e)

  pub mask_register : 5 ≤ k → f.message ≤ k - data_bytes s → within f.mask 4 k ≡ true → byte (mask_bytes s) (k - f.mask) ≡ msi_writable s k
  mask_register h j w = sym (behind h j ∙ rw w)

  pub not-writable : 5 ≤ k → f.message ≤ k - data_bytes s → within f.mask 4 k ≡ false → 0 ≡ msi_writable s k
  not-writable h j w = sym (behind h j ∙ rw w)

  pub shut_mask : 8 ≤ k → within f.mask 4 k ≡ true → clear (byte (mask_bytes s) (k - f.mask)) 0xff ≡ msi_zero s k
  shut_mask h w = let v : within (form_of s).mask 4 k ≡ true = rw (sym e) w in sym (high_zero s k h ∙ rw (v, e))

  pub pending-register : (b : Bool) → 8 ≤ k → within f.mask 4 k ≡ false → within f.pending 4 k ≡ b → cond b 0xff 0 ≡ msi_zero s k
  pending-register b h w p = sym (high_zero s k h ∙ rw (sym e, w, p))

-- from 40h on: n is MSI's length
module _ (s : Shape) (i n : ℕ) (e : n ≡ (form_of s).size) (h : 64 ≤ i) where
  pub msi-byte : within s.msi.at n i ≡ true → (writable s i ≡ msi_writable s (i - s.msi.at)) × (stored_zero s i ≡ msi_zero s (i - s.msi.at))
  msi-byte w = let v : within s.msi.at (form_of s).size i ≡ true = rw (sym e) w in (high-writable s i h ∙ rw v, high_stored s i h ∙ rw v)

  pub other_byte : within s.msi.at n i ≡ false
      → (writable s i ≡ cond (within s.msix.at 12 i) (cond (eqb (i - s.msix.at) 3) 0xc0 0) 0) × (stored_zero s i ≡ 0)
  other_byte w = let v : within s.msi.at (form_of s).size i ≡ false = rw (sym e) w in (high-writable s i h ∙ rw v, high_stored s i h ∙ rw v)
