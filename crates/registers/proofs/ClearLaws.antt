-- What a start does to the MSI capability: bits of bytes 2 and 3 are cleared; address, data, masks and Pending are 0; the rest stays. Assumes nothing.
use mathlib.Core.Path.{◌≡◌, refl, sym, ap, ap₂, ◌∙◌, subst}
use mathlib.Core.Bool.{Bool, true, false, not, cond, ◌&&◌}
use mathlib.Core.List.{List}
use Prim.Native.Nat.{ℕ, ◌+◌, ◌-◌, ◌≤◌, ◌<◌, min}
use native.Mathlib.Omega.{arith}
use lib.Dec.{leb, ltb, eqb}
use borrow.Author.Tests.{ne_eqb, eqb-true, eqb-false, lt-ltb, le-leb, ltb-true, ltb-false, leb-true}
use Rattle.words.specs.Lists.{within}
use Rattle.words.specs.Bits.{bit, clear}
use Rattle.words.specs.Bytes.{byte, Bytes}
use Rattle.words.proofs.BitLaws.{bits_ext_below, bit-clear, bit-ones, bit_of_zero, clear-le, clear_none}
use Rattle.words.proofs.BoolLaws.{both, and_intro, by_test, cond_same, not-between}
use Rattle.words.proofs.ListLaws.{within-true, true-within, not_within}
use Rattle.model.specs.declared.Form.{Form}
use Rattle.model.specs.declared.Shape.{Shape}
use Rattle.model.specs.Shape.{row, form_of, forms}
use Rattle.model.specs.Registers.{mask_bytes, data_bytes, msi_writable, msi_zero, fixed_byte}
use Rattle.registers.specs.Parts.{part_of, part_fixed, part_zero}
use Rattle.registers.proofs.MaskLaws.{data_most, control-writable, address_writable, low-zero, data_byte, mask_register, not-writable, shut_mask, pending-register, msi-byte}

-- ---- bytes of which every bit is cleared

nothing : (a b c : Bool) → c ≡ true → ((a && not (c && not b)) && not b) ≡ false
nothing true true c e = rw e
nothing true false c e = rw e
nothing false b c e = refl

both_clear : (m x : ℕ) → x < 256 → clear m (clear (clear m 0xff) x) ≡ 0
both_clear m x h =
    let z : ℕ = clear m 0xff in
    bits_ext_below 8 (clear m (clear z x)) 0 (omega (arith, clear-le m (clear z x), clear-le z x)) (omega arith)
    λ k l. bit-clear m (clear z x) k ∙ ap (λ (b : Bool). b && not (bit m k)) (bit-clear z x k ∙ ap (λ (b : Bool). bit x k && not b) (bit-clear m 0xff k))
    ∙ nothing (bit x k) (bit m k) (bit 0xff k) (bit-ones 8 k ∙ lt-ltb k 8 l) ∙ sym (bit_of_zero k)

all-clear : (x : ℕ) → x < 256 → clear 0xff x ≡ 0
unfolding clear
all-clear x h = ap (clear 0xff) (sym (clear_none x)) ∙ both_clear 0xff x h

-- ---- the four forms, with n bytes of data: the masks follow four bytes behind the start of the data, if anything does

record Runs (n : ℕ) (f : Form) : Type 0 where
  low : 8 ≤ f.message
  high : f.message ≤ 12
  data_end : f.message + n ≤ f.size
  more : f.message + n < f.size → (f.mask ≡ f.message + 4) × (f.pending ≡ f.message + 8) × (f.size ≡ f.message + 12)

unmasked : (extended : Bool) (a z : ℕ) → z ≡ a + 2 → (a + cond extended 4 2 ≡ z + cond (extended && true) 2 0)
unmasked true a z e = omega arith
unmasked false a z e = omega arith

with-masks : (extended : Bool) (z : ℕ) → (cond extended 4 2 ≤ 4) × (z + cond (extended && false) 2 0 ≡ z)
with-masks true z = (omega arith, omega arith)
with-masks false z = (omega arith, omega arith)

runs : (s : Shape) → Runs (data_bytes s) (form_of s)
unfolding form_of forms data_bytes
runs s = go s.msi.extended s.msi.masks s.msi.wide
  where
    go : (extended masks wide : Bool)
        → let f : Form = forms masks wide in
        Runs (cond extended 4 2) (row f.message f.mask f.pending (f.size + cond (extended && not masks) 2 0))
    go extended false false = let u = unmasked extended 8 10 refl in record { low = omega arith; high = omega arith; data_end = omega arith; more = λ h. absurd (omega arith) }
    go extended false true = let u = unmasked extended 12 14 refl in record { low = omega arith; high = omega arith; data_end = omega arith; more = λ h. absurd (omega arith) }
    go extended true false = let m = with-masks extended 20 in record { low = omega arith; high = omega arith; data_end = omega arith; more = λ h. (refl, refl, m.1) }
    go extended true true = let m = with-masks extended 24 in record { low = omega arith; high = omega arith; data_end = omega arith; more = λ h. (refl, refl, m.1) }

pub message-small : (s : Shape) (f : Form) → f ≡ form_of s → f.message ≤ 12
message-small s f e = (subst (Runs (data_bytes s)) (sym e) (runs s)).high

-- of the first four bytes only byte 2 has writable bits, and byte 3 with control bit 9
none : (extended : Bool) (d : ℕ) → (2 ≤ d → cond extended 4 3 ≤ d) → d < 4
    → ◌≡◌ {A = ℕ} (cond (eqb d 2) 0x71 (cond (eqb d 3) (cond extended 0x04 0) 0)) 0
none true d n l = rw (ne_eqb d 2 (λ q. omega (arith, n (omega arith))), ne_eqb d 3 (λ q. omega (arith, n (omega arith))))
none false d n l = rw (ne_eqb d 2 (λ q. omega (arith, n (omega arith)))) (cond_same (eqb d 3) 0)

control_most : (extended : Bool) → cond extended 4 3 ≤ 4
control_most true = omega arith
control_most false = omega arith

-- a place before the n from lo on
ahead : (lo n k : ℕ) → k < lo → within lo n k ≡ false
ahead lo n k h = by_test (within lo n k) (λ t. absurd (omega (arith, (within-true lo n k t).0))) (λ t. t)

-- ---- configuration byte k of the structure: f is its form

module _ (s : Shape) (f : Form) (e : f ≡ form_of s) (h : 64 ≤ s.msi.at) (k x : ℕ) where
  run : Runs (data_bytes s) f
  run = subst (Runs (data_bytes s)) (sym e) (runs s)

  fixed_msi : s.msi.at ≤ k → k < s.msi.at + f.size → (w z : ℕ) → w ≡ msi_writable s (k - s.msi.at) → z ≡ msi_zero s (k - s.msi.at)
      → fixed_byte s k x ≡ clear w (clear z x)
  unfolding fixed_byte
  fixed_msi i j w z p q =
      let t = msi-byte s k f.size (ap (λ (g : Form). g.size) e) (omega arith) (true-within s.msi.at f.size k i j) in
      ap₂ (λ (m n : ℕ). clear m (clear n x)) (t.0 ∙ sym p) (t.1 ∙ sym q)

  address_zero : x < 256 → s.msi.at + 4 ≤ k → k < s.msi.at + (f.message + data_bytes s) → fixed_byte s k x ≡ 0
  unfolding clear
  address_zero b i j =
      let d = k - s.msi.at in
      let l : k < s.msi.at + f.size = omega (arith, run.data_end) in
      by_test (eqb d 4)
      (λ t. let q : d ≡ 4 = eqb-true d 4 t in
      fixed_msi (omega arith) l 0xfc 0x03 (sym (address_writable s d q)) (sym (low-zero s d (omega arith) ∙ rw t)) ∙ both_clear 0xfc x b)
      (λ t. let q : d ≡ 4 → ⊥ = eqb-false d 4 t in
      let z = msi_zero s d in
      fixed_msi (omega arith) l 0xff z (data_byte s f e d (omega (arith, q)) (omega (arith, run.low, data_most s))) refl
      ∙ all-clear (clear z x) (omega (arith, clear-le z x)))

  masks-zero : x < 256 → s.msi.at + (f.message + 4) ≤ k → k < s.msi.at + f.size → fixed_byte s k x ≡ 0
  unfolding clear
  masks-zero b i j =
      let d = k - s.msi.at in
      let r = run.more (omega (arith, data_most s)) in
      let l = run.low in
      let n = data_most s in
      by_test (ltb d (f.mask + 4))
      (λ t. let w : within f.mask 4 d ≡ true = true-within f.mask 4 d (omega arith) (ltb-true d (f.mask + 4) t) in
      let m = byte (mask_bytes s) (d - f.mask) in
      fixed_msi (omega arith) j m (clear m 0xff) (mask_register s f e d (omega arith) (omega arith) w) (shut_mask s f e d (omega arith) w) ∙ both_clear m x b)
      (λ t. let u : f.mask + 4 ≤ d = ltb-false d (f.mask + 4) t in
      let w : within f.mask 4 d ≡ false = not_within f.mask 4 d u in
      let p : within f.pending 4 d ≡ true = true-within f.pending 4 d (omega arith) (omega arith) in
      fixed_msi (omega arith) j 0 0xff (not-writable s f e d (omega arith) (omega arith) w) (pending-register s f e d true (omega arith) w p)
      ∙ both_clear 0 x b)

  stays : s.msi.at ≤ k → k < s.msi.at + f.size → 0 ≡ msi_writable s (k - s.msi.at) → 0 ≡ msi_zero s (k - s.msi.at) → fixed_byte s k x ≡ x
  stays i j p q = fixed_msi i j 0 0 p q ∙ clear_none (clear 0 x) ∙ clear_none x

  -- bytes 0 and 1, and byte 3 without control bit 9
  control_stays : s.msi.at ≤ k → k < s.msi.at + 4 → (s.msi.at + 2 ≤ k → s.msi.at + cond s.msi.extended 4 3 ≤ k) → fixed_byte s k x ≡ x
  control_stays i j n =
      let d = k - s.msi.at in
      let l : k < s.msi.at + f.size = omega (arith, run.low, run.data_end) in
      stays i l (sym (control-writable s d (omega arith) ∙ none s.msi.extended d (λ h. omega (arith, n (omega arith))) (omega arith)))
      (sym (low-zero s d (omega arith) ∙ rw (ne_eqb d 4 (omega arith))))

  -- behind 16-bit data its upper half
  gap_stays : s.msi.at + (f.message + data_bytes s) ≤ k → k < s.msi.at + (f.message + 4) → k < s.msi.at + f.size → fixed_byte s k x ≡ x
  gap_stays i u j =
      let d = k - s.msi.at in
      let r = run.more (omega arith) in
      let l = run.low in
      let w : within f.mask 4 d ≡ false = ahead f.mask 4 d (omega arith) in
      let p : within f.pending 4 d ≡ false = ahead f.pending 4 d (omega arith) in
      stays (omega arith) j (not-writable s f e d (omega arith) (omega arith) w) (pending-register s f e d false (omega arith) w p)

-- ---- all of the structure, in three steps; a step ends at byte 255

inside : (lo hi k : ℕ) → (leb lo k && ltb k hi) ≡ true → (lo ≤ k) × (k < hi)
inside lo hi k t = let p = both (leb lo k) (ltb k hi) t in (leb-true lo k p.0, ltb-true k hi p.1)

between : (lo hi k : ℕ) → lo ≤ k → k < hi → (leb lo k && ltb k hi) ≡ true
between lo hi k h j = and_intro (leb lo k) (ltb k hi) (le-leb lo k h) (lt-ltb k hi j)

module _ (g : ℕ → ℕ → ℕ) (lo hi : ℕ) (c : List ℕ) (k : ℕ) where
  part_in : (leb lo k && ltb k hi) ≡ true → part_of g lo hi c k ≡ g k (byte c k)
  unfolding part_of
  part_in t = rw t

  part_out : (leb lo k && ltb k hi) ≡ false → part_of g lo hi c k ≡ byte c k
  unfolding part_of
  part_out t = rw t

module _ (s : Shape) (f : Form) (e : f ≡ form_of s) (h : 64 ≤ s.msi.at) where
  abbrev End : ℕ → ℕ → Type 0
  End n l = l ≡ min (s.msi.at + n) 256

  -- no step changes byte k
  kept : (k x : ℕ) → s.msi.at ≤ k → k < min (s.msi.at + f.size) 256
      → (s.msi.at + 2 ≤ k → s.msi.at + cond s.msi.extended 4 3 ≤ k)
      → (s.msi.at + 4 ≤ k → s.msi.at + (f.message + data_bytes s) ≤ k) → (s.msi.at + (f.message + 4) ≤ k → ⊥)
      → fixed_byte s k x ≡ x
  kept k x i j n₂ n₄ n₆ =
      by_test (ltb k (s.msi.at + 4))
      (λ t. control_stays s f e h k x i (ltb-true k (s.msi.at + 4) t) n₂)
      (λ t. gap_stays s f e h k x (n₄ (ltb-false k (s.msi.at + 4) t)) (omega (arith, n₆)) (omega arith))

  pub msi-steps : (l₂ l₃ l₄ l₅ l₆ l₇ : ℕ) → End 2 l₂ → End (cond s.msi.extended 4 3) l₃ → End 4 l₄
      → End (f.message + data_bytes s) l₅ → End (f.message + 4) l₆ → End f.size l₇
      → (c d₁ d₂ d₃ : List ℕ) → Bytes c
      → ((k : ℕ) → byte d₁ k ≡ part_fixed s l₂ l₃ c k) → ((k : ℕ) → byte d₂ k ≡ part_zero l₄ l₅ d₁ k) → ((k : ℕ) → byte d₃ k ≡ part_zero l₆ l₇ d₂ k)
      → (k : ℕ) → byte d₃ k ≡ part_fixed s s.msi.at (min (s.msi.at + f.size) 256) c k
  msi-steps l₂ l₃ l₄ l₅ l₆ l₇ e₂ e₃ e₄ e₅ e₆ e₇ c d₁ d₂ d₃ b p₁ p₂ p₃ k =
      let a = s.msi.at in
      let m = min (a + f.size) 256 in
      let x = byte c k in
      let r = run s f e h k x in
      by_test (leb l₆ k && ltb k l₇)
      (λ t₃. let i = inside l₆ l₇ k t₃ in
      p₃ k ∙ part_in (λ j y. 0) l₆ l₇ d₂ k t₃
      ∙ sym (part_in (fixed_byte s) a m c k (between a m k (omega arith) (omega arith)) ∙ masks-zero s f e h k x (b k) (omega arith) (omega arith)))
      (λ t₃. p₃ k ∙ part_out (λ j y. 0) l₆ l₇ d₂ k t₃ ∙ p₂ k ∙ by_test (leb l₄ k && ltb k l₅)
      (λ t₂. let i = inside l₄ l₅ k t₂ in
      part_in (λ j y. 0) l₄ l₅ d₁ k t₂
      ∙ sym (part_in (fixed_byte s) a m c k (between a m k (omega arith) (omega (arith, r.data_end))) ∙ address_zero s f e h k x (b k) (omega arith) (omega arith)))
      (λ t₂. part_out (λ j y. 0) l₄ l₅ d₁ k t₂ ∙ p₁ k ∙ by_test (leb l₂ k && ltb k l₃)
      (λ t₁. let i = inside l₂ l₃ k t₁ in
      part_in (fixed_byte s) l₂ l₃ c k t₁ ∙ sym (part_in (fixed_byte s) a m c k (between a m k (omega arith) (omega (arith, r.low, r.data_end, control_most s.msi.extended)))))
      (λ t₁. part_out (fixed_byte s) l₂ l₃ c k t₁ ∙ sym (by_test (leb a k && ltb k m)
      (λ t. let i = inside a m k t in
      part_in (fixed_byte s) a m c k t ∙ kept k x i.0 i.1
      (λ q. omega (arith, not-between l₂ l₃ k t₁ (omega arith)))
      (λ q. omega (arith, not-between l₄ l₅ k t₂ (omega arith)))
      (λ q. omega (arith, not-between l₆ l₇ k t₃ (omega arith))))
      (λ t. part_out (fixed_byte s) a m c k t)))))
