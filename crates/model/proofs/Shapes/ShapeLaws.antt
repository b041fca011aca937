-- The shape depends only on bits that no call changes. Assumes nothing.
use mathlib.Core.Path.{◌≡◌, refl, sym, ap, ◌∙◌}
use mathlib.Core.Bool.{Bool, true, false, not, cond, ◌&&◌}
use mathlib.Core.Option.{some}
use mathlib.Core.List.{List, [], ◌∷◌}
use Prim.Native.Nat.{ℕ, ◌+◌, ◌-◌, ◌*◌, ◌/◌, ◌%◌, ◌≤◌, ◌<◌}
use native.Mathlib.Omega.{arith}
use lib.Dec.{eqb}
use borrow.Author.Tests.{not-true, ne_eqb}
use Rattle.words.specs.Lists.{all, count, first_of}
use Rattle.words.specs.Bits.{bit, clear}
use Rattle.words.specs.Bytes.{byte, bit_at, number, word32}
use Rattle.words.proofs.BitLaws.{bit-clear, bit_of_zero, clear_none, field-same}
use Rattle.words.proofs.ListLaws.{Holds, keep_same, all-below}
use Rattle.words.proofs.ByteLaws.{number_same}
use Rattle.model.specs.declared.Shape.{Shape}
use Rattle.model.specs.Capabilities.{capabilities, listed, broken, walk, with_id}
use Rattle.model.specs.Shape.{shape_of, shape_in, msi_of, msix_of, msi_at, msix_at, region_at, form_of}
use Rattle.model.specs.Registers.{writable, stored_zero, fixed_byte, header_writable, header_zero, msi_writable, msi_zero, msix_writable}
use Rattle.model.specs.Start.{given, bad_structures, bad_header, twice, start_refusal}
use Rattle.model.proofs.Shapes.CapabilityLaws.{walk_same, capabilities-high, first-high}
use Rattle.model.proofs.Shapes.PlaceLaws.{Placed, placed, size_large, in-msi, at_msix, listed-header}

-- a bit of the fixed ones
pub bit_fixed : (s : Shape) (i b k : ℕ) → bit (fixed_byte s i b) k ≡ (bit b k && not (bit (stored_zero s i) k) && not (bit (writable s i) k))
unfolding fixed_byte
bit_fixed s i b k = bit-clear (writable s i) (clear (stored_zero s i) b) k ∙ ap (λ (t : Bool). t && not (bit (writable s i) k)) (bit-clear (stored_zero s i) b k)

-- a byte with no writable bit and none stored as 0
pub all_fixed : (s : Shape) (i b : ℕ) → (writable s i ≡ 0) × (stored_zero s i ≡ 0) → fixed_byte s i b ≡ b
unfolding fixed_byte
all_fixed s i b e = rw (e.0, e.1) (clear_none (clear 0 b) ∙ clear_none b)

-- ---- two configurations that agree in the fixed bits of the first, whose list and structures pass checks 11 and 13

module _ (c d : List ℕ) (whole : broken (capabilities c) ≡ false) (places : bad_structures (listed (capabilities c)) (shape_of c) ≡ false)
    (same : (i : ℕ) → fixed_byte (shape_of c) i (byte d i) ≡ fixed_byte (shape_of c) i (byte c i)) where
  p : Placed (listed (capabilities c)) (shape_of c)
  p = placed (listed (capabilities c)) (shape_of c) places

  same_byte : (i : ℕ) → (writable (shape_of c) i ≡ 0) × (stored_zero (shape_of c) i ≡ 0) → byte d i ≡ byte c i
  same_byte i e = sym (all_fixed (shape_of c) i (byte d i) e) ∙ same i ∙ all_fixed (shape_of c) i (byte c i) e

  -- bit k of byte i, which has these masks
  same_bit : (i k m z : ℕ) → writable (shape_of c) i ≡ m → stored_zero (shape_of c) i ≡ z → bit m k ≡ false → bit z k ≡ false → bit (byte d i) k ≡ bit (byte c i) k
  same_bit i k m z em ez hm hz = sym (shows (byte d i)) ∙ ap (λ (b : ℕ). bit b k) (same i) ∙ shows (byte c i)
    where
      keeps : (a : Bool) → (a && not false && not false) ≡ a
      keeps true = refl
      keeps false = refl

      shows : (b : ℕ) → bit (fixed_byte (shape_of c) i b) k ≡ bit b k
      shows b = bit_fixed (shape_of c) i b k ∙ rw (em, ez, hm, hz) (keeps (bit b k))

  -- byte k, 0 or 1, of a listed header
  header-same : (k : ℕ) → k ≤ 1 → (msi_writable (shape_of c) k ≡ 0) × (msi_zero (shape_of c) k ≡ 0) × (msix_writable k ≡ 0)
      → Holds (λ a. byte d (a + k) ≡ byte c (a + k)) (listed (capabilities c))
  header-same k h z a m = same_byte (a + k) (listed-header (listed (capabilities c)) (shape_of c) a k p m (capabilities-high c a m) h z)

  status : bit (byte d 6) 4 ≡ bit (byte c 6) 4
  unfolding writable stored_zero header_writable header_zero first_of bit
  status = same_bit 6 4 0 8 refl refl refl refl

  first-pointer : byte d 0x34 ≡ byte c 0x34
  unfolding writable stored_zero header_writable header_zero first_of
  first-pointer = same_byte 0x34 (refl, refl)

  links : Holds (λ a. byte d (a + 1) ≡ byte c (a + 1)) (listed (capabilities c))
  unfolding msi_writable msi_zero msix_writable first_of
  links = header-same 1 (omega arith) (refl, refl, refl)

  pub capabilities-same : capabilities d ≡ capabilities c
  unfolding capabilities
  capabilities-same = rw (status, first-pointer) (go (bit (byte c 6) 4) links whole)
    where
      q : ℕ
      q = byte c 0x34

      go : (b : Bool) → Holds (λ a. byte d (a + 1) ≡ byte c (a + 1)) (listed (cond b (walk c 48 q) (some []))) → broken (cond b (walk c 48 q) (some [])) ≡ false
          → cond b (walk d 48 q) (some []) ≡ cond b (walk c 48 q) (some [])
      go true h k = walk_same c d 48 q h k
      go false h k = refl

  ids : Holds (λ a. byte d a ≡ byte c a) (listed (capabilities c))
  unfolding msi_writable msi_zero msix_writable first_of
  ids a m = let e : a + 0 ≡ a = omega arith in rw e at (header-same 0 (omega arith) (refl, refl, refl) a m)

  with_id-same : (id : ℕ) → with_id d (listed (capabilities c)) id ≡ with_id c (listed (capabilities c)) id
  unfolding with_id
  with_id-same id = keep_same (λ a. eqb (byte d a) id) (λ a. eqb (byte c a) id) (listed (capabilities c)) (λ a m. ap (λ (x : ℕ). eqb x id) (ids a m))

  -- ---- MSI

  msi_here : (a : ℕ) (r : List ℕ) → with_id c (listed (capabilities c)) 0x05 ≡ a ∷ r → (shape_of c).msi.at ≡ a
  unfolding shape_of shape_in msi_of msi_at
  msi_here a r e = ap (λ (l : List ℕ). (msi_of c l).at) e

  -- bit k of byte j of the capability, which stands at i
  msi-bit : (a i j k m : ℕ) → (shape_of c).msi.at ≡ a → 64 ≤ a → i ≡ a + j → j < 10 → msi_writable (shape_of c) j ≡ m → msi_zero (shape_of c) j ≡ 0 → bit m k ≡ false
      → bit (byte d i) k ≡ bit (byte c i) k
  msi-bit a i j k m o h e l em ez hm =
      let n : 10 ≤ (form_of (shape_of c)).size = size_large (shape_of c) in
      let f = in-msi (shape_of c) i j (omega arith) (omega arith) (omega arith) in
      same_bit i k m 0 (f.0 ∙ em) (f.1 ∙ ez) hm (bit_of_zero k)

  msi-same : (l : List ℕ) → with_id c (listed (capabilities c)) 0x05 ≡ l → msi_of d l ≡ msi_of c l
  unfolding msi_of msi_at msi_writable msi_zero first_of bit_at bit all count
  msi-same [] e = refl
  msi-same (a ∷ r) e =
      let h : 64 ≤ a = first-high c 0x05 a r e in
      let o : (shape_of c).msi.at ≡ a = msi_here a r e in
      let free : (k : ℕ) → k < 3 → bit 0x71 (1 + k) ≡ false = λ k l. not-true (bit 0x71 (1 + k)) (all-below (λ k. not (bit 0x71 (1 + k))) 3 k refl l) in
      λ i. record {
        at = a;
        capable = field-same (byte d (a + 2)) (byte c (a + 2)) 1 3 (λ k l. msi-bit a (a + 2) 2 (1 + k) 0x71 o h refl (omega arith) refl refl (free k l)) i;
        wide = msi-bit a (a + 2 + 0) 2 7 0x71 o h (omega arith) (omega arith) refl refl refl i;
        masks = msi-bit a (a + 2 + 1) 3 0 (cond (shape_of c).msi.extended 4 0) o h (omega arith) (omega arith) refl refl (off 0 refl (shape_of c).msi.extended) i;
        extended = msi-bit a (a + 2 + 1) 3 1 (cond (shape_of c).msi.extended 4 0) o h (omega arith) (omega arith) refl refl (off 1 refl (shape_of c).msi.extended) i;
      }
    where
      off : (k : ℕ) → bit 4 k ≡ false → (e : Bool) → bit (cond e 4 0) k ≡ false
      off k q true = q
      off k q false = bit_of_zero k

  -- ---- MSI-X

  msix_here : (a : ℕ) (r : List ℕ) → with_id c (listed (capabilities c)) 0x11 ≡ a ∷ r → (shape_of c).msix.at ≡ a
  unfolding shape_of shape_in msix_of msix_at
  msix_here a r e = ap (λ (l : List ℕ). (msix_of c l).at) e

  -- byte j of the capability, which stands at i and has no writable bit
  msix-byte : (a i j : ℕ) → (shape_of c).msix.at ≡ a → 64 ≤ a → i ≡ a + j → j < 12 → msix_writable j ≡ 0 → byte d i ≡ byte c i
  msix-byte a i j o h e l w =
      let f = at_msix (listed (capabilities c)) (shape_of c) i j p (omega arith) (omega arith) l in
      same_byte i (f.0 ∙ w, f.1)

  -- the word at byte j, 4 or 8, of the capability
  region_same : (a i j : ℕ) → (shape_of c).msix.at ≡ a → 64 ≤ a → i ≡ a + j → 4 ≤ j → j + 4 ≤ 12 → region_at d i ≡ region_at c i
  unfolding region_at word32 msix_writable
  region_same a i j o h e l u =
      let w : number (byte d) i 4 ≡ number (byte c) i 4 =
      number_same (byte d) (byte c) i 4
      (λ k lo hi. msix-byte a k (k - a) o h (omega arith) (omega arith) (ap (λ (b : Bool). cond b 0xc0 0) (ne_eqb (k - a) 3 (omega arith)))) in
      λ t. record { bar = w t % 8; at = w t / 8 * 8 }

  msix-same : (l : List ℕ) → with_id c (listed (capabilities c)) 0x11 ≡ l → msix_of d l ≡ msix_of c l
  unfolding msix_of msix_at msix_writable bit all count
  msix-same [] e = refl
  msix-same (a ∷ r) e =
      let h : 64 ≤ a = first-high c 0x11 a r e in
      let o : (shape_of c).msix.at ≡ a = msix_here a r e in
      let f = at_msix (listed (capabilities c)) (shape_of c) (a + 3) 3 p (omega arith) (omega arith) (omega arith) in
      let free : (k : ℕ) → k < 3 → bit 0xc0 (0 + k) ≡ false = λ k l. not-true (bit 0xc0 (0 + k)) (all-below (λ k. not (bit 0xc0 (0 + k))) 3 k refl l) in
      λ i. record {
        at = a;
        vectors =
            msix-byte a (a + 2) 2 o h refl (omega arith) refl i
            + 256 * field-same (byte d (a + 3)) (byte c (a + 3)) 0 3 (λ k l. same_bit (a + 3) (0 + k) 0xc0 0 f.0 f.1 (free k l) (bit_of_zero (0 + k))) i
            + 1;
        table = region_same a (a + 4) 4 o h refl (omega arith) (omega arith) i;
        pending = region_same a (a + 8) 8 o h refl (omega arith) (omega arith) i;
      }

  pub shape_same : shape_of d ≡ shape_of c
  unfolding shape_of shape_in
  shape_same =
      rw (capabilities-same, with_id-same 0x05, with_id-same 0x11)
      λ i. record { msi = msi-same (with_id c (listed (capabilities c)) 0x05) refl i; msix = msix-same (with_id c (listed (capabilities c)) 0x11) refl i }

  pub pin-same : byte d 0x3d ≡ byte c 0x3d
  unfolding writable stored_zero header_writable header_zero first_of
  pin-same = same_byte 0x3d (refl, refl)

  -- ---- so a start refuses both alike

  header-bytes : bad_header d ≡ bad_header c
  unfolding bad_header writable stored_zero header_writable header_zero first_of
  header-bytes = rw (same_byte 0x0e (refl, refl), pin-same)

  twice_same : twice d (listed (capabilities c)) ≡ twice c (listed (capabilities c))
  unfolding twice
  twice_same = rw (with_id-same 0x05, with_id-same 0x11)

  pub refusal-same : (sizes : List ℕ) (events requester table pending : ℕ)
      → start_refusal (given d sizes events requester table pending) ≡ start_refusal (given c sizes events requester table pending)
  unfolding start_refusal
  refusal-same sizes events requester table pending = rw (capabilities-same, shape_same, header-bytes, twice_same)
