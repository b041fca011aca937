-- Few parts of the configuration have writable bits or bits stored as 0: a start that fixes those parts fixes all. Assumes nothing.
use mathlib.Core.Path.{◌≡◌, refl, sym, ap, ◌∙◌}
use mathlib.Core.Bool.{Bool, false, cond, ◌&&◌, ◌||◌}
use mathlib.Core.List.{List}
use Prim.Native.Nat.{ℕ, ◌+◌, ◌-◌, ◌≤◌, ◌<◌, min, max}
use native.Mathlib.Omega.{arith}
use lib.Dec.{leb, ltb, eqb}
use lib.ListN.{length, set, replicate}
use borrow.Author.Rules.{rules}
use borrow.Rule.Slice.PartMut.{put_mid}
use Rattle.std.proofs.lemmas.List.{places}
use lib.Seq.{get_or-set_same, get_or-set_other, ext_get_or}
use borrow.Author.Tests.{ne_eqb, eqb-true, eqb-false, lt-ltb, le-ltb, le-leb, ltb-true, ltb-false, leb-true, leb-false}
use Rattle.words.specs.Lists.{within, first_of}
use Rattle.words.specs.Bits.{clear}
use Rattle.words.specs.Bytes.{byte}
use Rattle.words.proofs.BitLaws.{clear_none}
use Rattle.words.proofs.BoolLaws.{same_test, by_test, neither, cond-twice, not-between}
use Rattle.words.proofs.ListLaws.{within-true}
use Rattle.model.specs.declared.Shape.{Shape}
use Rattle.model.specs.Shape.{form_of}
use Rattle.model.specs.Registers.{header_writable, writable, stored_zero, fixed_byte, started_config}
use Rattle.model.proofs.Registers.FixedLaws.{length-started, byte-started, fixed_started}
use Rattle.registers.specs.Parts.{part_of, part_fixed, part_zero}
use Rattle.registers.proofs.MaskLaws.{header-byte, other_byte}

-- ---- a part, byte by byte

module _ (g : ℕ → ℕ → ℕ) (lo : ℕ) (c : List ℕ) where
  pub part_none : (k : ℕ) → byte c k ≡ part_of g lo lo c k
  unfolding part_of
  part_none k = by_test (leb lo k) (λ e. rw (e, le-ltb k lo (leb-true lo k e))) (λ e. rw e)

  -- byte i is stored
  pub part-more : (d : List ℕ) (i x : ℕ) → lo ≤ i → i < length d → ((k : ℕ) → byte d k ≡ part_of g lo i c k) → x ≡ g i (byte d i)
      → (k : ℕ) → byte (set d i x) k ≡ part_of g lo (i + 1) c k
  unfolding part_of
  part-more d i x h l t e k =
      by_test (eqb k i)
      (λ v. let q : k ≡ i = eqb-true k i v in
      let old : byte d i ≡ byte c i = t i ∙ rw (le-leb lo i h, le-ltb i i (omega arith)) in
      rw (q, le-leb lo i h, lt-ltb i (i + 1) (omega arith)) (get_or-set_same d i x 0 l ∙ e ∙ ap (g i) old))
      (λ v. let q = eqb-false k i v in
      let b : ltb k i ≡ ltb k (i + 1) =
      same_test (ltb k i) (ltb k (i + 1)) (λ u. lt-ltb k (i + 1) (omega (arith, ltb-true k i u))) (λ u. lt-ltb k i (omega (arith, q, ltb-true k (i + 1) u))) in
      get_or-set_other d i k x 0 q ∙ t k ∙ rw b)

  -- its first byte is stored
  pub part-one : (x : ℕ) → lo < length c → x ≡ g lo (byte c lo) → (k : ℕ) → byte (set c lo x) k ≡ part_of g lo (lo + 1) c k
  part-one x h e = part-more c lo x (omega arith) h part_none e

  -- the loop over the part ends at i
  pub part-all : (hi i : ℕ) → hi ≤ i → i ≤ max lo hi → (k : ℕ) → part_of g lo i c k ≡ part_of g lo hi c k
  unfolding part_of
  part-all hi i h l k =
      by_test (leb lo k)
      (λ t. let j = leb-true lo k t in
      let b : ltb k i ≡ ltb k hi =
      same_test (ltb k i) (ltb k hi) (λ u. lt-ltb k hi (omega (arith, ltb-true k i u))) (λ u. lt-ltb k i (omega (arith, ltb-true k hi u))) in
      rw b)
      (λ t. rw t)

-- a part is overwritten with zeros
pub part_zeroed : (lo hi : ℕ) (c ys : List ℕ) → lo < hi → hi ≤ length c → ys ≡ replicate (hi - lo) 0 → (k : ℕ) → byte (put_mid lo (hi - lo) c ys) k ≡ part_zero lo hi c k
unfolding part_of
part_zeroed lo hi c ys h l e k =
    by_test (leb lo k)
    (λ t.
    let i = leb-true lo k t in
    by_test (ltb k hi)
    (λ u. let j = ltb-true k hi u in rw (t, u, e) (search (rules, places)))
    (λ u. let j = ltb-false k hi u in rw (t, u, e) (search (rules, places))))
    (λ t. let i = leb-false lo k t in rw (t, e) (search (rules, places)))

-- ---- the rest has no such bit

module _ (s : Shape) (k : ℕ) where
  header-rest : k < 64 → (4 ≤ k → 7 ≤ k) → (0x3c ≤ k → 0x3d ≤ k) → (writable s k ≡ 0) × (stored_zero s k ≡ 0)
  unfolding header_writable first_of
  header-rest h a b =
      let t = header-byte s k h in (
        t.0 ∙ rw (ne_eqb k 4 (λ q. omega (arith, a (omega arith))), ne_eqb k 5 (λ q. omega (arith, a (omega arith))), ne_eqb k 0x3c (λ q. omega (arith, b (omega arith)))),
        t.1 ∙ rw (ne_eqb k 6 (λ q. omega (arith, a (omega arith)))),
      )

  high-rest : 64 ≤ k → (s.msi.at ≤ k → s.msi.at + (form_of s).size ≤ k) → (s.msix.at + 3 ≤ k → s.msix.at + 4 ≤ k) → (writable s k ≡ 0) × (stored_zero s k ≡ 0)
  high-rest h a b =
      let w : within s.msi.at (form_of s).size k ≡ false =
      by_test (within s.msi.at (form_of s).size k)
      (λ e. let v = within-true s.msi.at (form_of s).size k e in absurd (omega (arith, v.1, a v.0))) (λ e. e) in
      let t = other_byte s k (form_of s).size refl h w in (
        t.0 ∙ by_test (within s.msix.at 12 k)
            (λ e. let v = within-true s.msix.at 12 k e in rw (e, ne_eqb (k - s.msix.at) 3 (λ q. omega (arith, v.0, b (omega (arith, v.0)))))) (λ e. rw e),
        t.1,
      )

-- ---- the four parts

abbrev Part : Shape → (lo hi : ℕ) → (d e : List ℕ) → Type 0
Part s lo hi d e = (k : ℕ) → byte e k ≡ part_fixed s lo hi d k

module _ (s : Shape) (c : List ℕ) where
  -- the bytes of d that pass a test are fixed
  abbrev Fixed : (ℕ → Bool) → List ℕ → Type 0
  Fixed t d = (k : ℕ) → k < length c → byte d k ≡ cond (t k) (fixed_byte s k (byte c k)) (byte c k)

  fixed_more : (t : ℕ → Bool) (lo hi : ℕ) (d e : List ℕ) → Fixed t d → Part s lo hi d e → Fixed (λ k. t k || (leb lo k && ltb k hi)) e
  unfolding part_of
  fixed_more t lo hi d e g p k h =
      let b : Bool = leb lo k && ltb k hi in
      p k ∙ ap (λ (x : ℕ). cond b (fixed_byte s k x) x) (g k h)
      ∙ cond-twice (t k) b (fixed_byte s k) (byte c k) (ap (fixed_byte s k) (sym (byte-started s c k h)) ∙ fixed_started s c k)

  fixed_all : (t : ℕ → Bool) (d : List ℕ) → Fixed t d → length d ≡ length c
      → ((k : ℕ) → k < length c → t k ≡ false → (writable s k ≡ 0) × (stored_zero s k ≡ 0)) → d ≡ started_config s c
  unfolding fixed_byte
  fixed_all t d g n z =
      ext_get_or 0 d (started_config s c) (n ∙ sym (length-started s c))
      λ k j. let h : k < length c = omega arith in
      g k h ∙ by_test (t k) (λ e. rw e)
      (λ e. let w = z k h e in rw (e, w.0, w.1) (sym (clear_none (clear 0 (byte c k)) ∙ clear_none (byte c k))))
      ∙ sym (byte-started s c k h)

  pub four_parts : (m n o : ℕ) → m ≡ min (s.msi.at + (form_of s).size) 256 → n ≡ min (s.msix.at + 3) 256 → o ≡ min (s.msix.at + 4) 256
      → length c ≡ 256 → (d₁ d₂ d₃ d₄ : List ℕ)
      → Part s 4 7 c d₁ → Part s 0x3c 0x3d d₁ d₂ → Part s (max 64 s.msi.at) m d₂ d₃ → Part s n o d₃ d₄
      → length d₄ ≡ 256 → d₄ ≡ started_config s c
  four_parts m n o em en eo l d₁ d₂ d₃ d₄ p₁ p₂ p₃ p₄ l₄ =
      let t₁ : ℕ → Bool = λ k. false || (leb 4 k && ltb k 7) in
      let t₂ : ℕ → Bool = λ k. t₁ k || (leb 0x3c k && ltb k 0x3d) in
      let t₃ : ℕ → Bool = λ k. t₂ k || (leb (max 64 s.msi.at) k && ltb k m) in
      let t₄ : ℕ → Bool = λ k. t₃ k || (leb n k && ltb k o) in
      let g₁ : Fixed t₁ d₁ = fixed_more (λ k. false) 4 7 c d₁ (λ k h. refl) p₁ in
      let g₂ : Fixed t₂ d₂ = fixed_more t₁ 0x3c 0x3d d₁ d₂ g₁ p₂ in
      let g₃ : Fixed t₃ d₃ = fixed_more t₂ (max 64 s.msi.at) m d₂ d₃ g₂ p₃ in
      fixed_all t₄ d₄ (fixed_more t₃ n o d₃ d₄ g₃ p₄) (omega arith)
      (λ k h e.
      let e₄ = neither (t₃ k) (leb n k && ltb k o) e in
      let e₃ = neither (t₂ k) (leb (max 64 s.msi.at) k && ltb k m) e₄.0 in
      let e₂ = neither (t₁ k) (leb 0x3c k && ltb k 0x3d) e₃.0 in
      by_test (ltb k 64)
      (λ j. header-rest s k (ltb-true k 64 j) (not-between 4 7 k e₂.0) (not-between 0x3c 0x3d k e₂.1))
      (λ j. high-rest s k (ltb-false k 64 j)
      (λ q. let r : m ≤ k = not-between (max 64 s.msi.at) m k e₃.1 (omega (arith, ltb-false k 64 j)) in omega arith)
      (λ q. let r : o ≤ k = not-between n o k e₄.1 (omega arith) in omega arith)))
