-- What a read of the configuration shows. Assumes nothing.
use mathlib.Core.Path.{◌≡◌, sym, ap, ap₂, ◌∙◌}
use mathlib.Core.Bool.{Bool, true, false, ◌&&◌, and-false}
use mathlib.Core.List.{List}
use Prim.Native.Nat.{ℕ, ◌+◌, ◌-◌, ◌*◌, ◌/◌, ◌%◌, ◌≤◌, ◌<◌}
use native.Mathlib.Omega.{arith}
use lib.Bits.{bit_and}
use lib.Dec.{eqb}
use lib.ListN.{length}
use borrow.Author.Tests.{eq-eqb, ne_eqb, eqb-true, eqb-false}
use Rattle.words.specs.Lists.{within}
use Rattle.words.specs.Bits.{bit, of_bool}
use Rattle.words.specs.Bytes.{byte, bytes_of, number}
use Rattle.words.proofs.BitLaws.{bit-and, bit_of_zero, of_bool-small}
use Rattle.words.proofs.BoolLaws.{both, and_intro, same_test, by_test, cond_elim}
use Rattle.words.proofs.ByteLaws.{bytes_of_lt, number_same}
use Rattle.words.proofs.ListLaws.{within-true, true-within, all-at}
use Rattle.model.specs.declared.Form.{Form}
use Rattle.model.specs.declared.Shape.{Shape}
use Rattle.model.specs.World.{Endpoint}
use Rattle.model.specs.Shape.{form_of}
use Rattle.model.specs.Registers.{in_msi, in_pending_register, shown, stored_zero, header_zero}
use Rattle.model.specs.Sound.{zero_bits}
use Rattle.layout.proofs.Checks.{msi_absent, msi_there}
use Rattle.registers.proofs.MaskLaws.{masked}
use Rattle.registers.specs.Shown.{byte_shown, config_shown}

-- ---- one byte

module _ (s : Shape) (line : Bool) (waiting i b : ℕ) where
  pub shown_status : i ≡ 6 → b + 8 * of_bool line ≡ byte_shown s line waiting i b
  unfolding byte_shown
  shown_status e = rw (eq-eqb i 6 e)

  module _ (o : i ≡ 6 → ⊥) where
    pub shown-unmasked : s.msi.masks ≡ false → b ≡ byte_shown s line waiting i b
    unfolding byte_shown in_pending_register
    shown-unmasked e = rw (ne_eqb i 6 o, e, and-false)

    pub shown-absent : s.msi.at ≡ 0 → b ≡ byte_shown s line waiting i b
    unfolding byte_shown in_msi
    shown-absent e = rw (ne_eqb i 6 o, msi_absent s e)

    module _ (f : Form) (e : f ≡ form_of s) (m : s.msi.masks ≡ true) (p : s.msi.at ≡ 0 → ⊥) where
      in_register : (in_msi s i && in_pending_register s (i - s.msi.at)) ≡ within (s.msi.at + f.pending) 4 i
      unfolding in_msi in_pending_register
      in_register =
          let n : (form_of s).size ≡ (form_of s).pending + 4 = (masked s m).last in
          let q : (form_of s).pending ≡ f.pending = ap (λ (g : Form). g.pending) (sym e) in
          let a : Bool = within s.msi.at (form_of s).size i in
          let b : Bool = within (form_of s).pending 4 (i - s.msi.at) in
          ap₂ (λ (x y : Bool). (x && a) && (y && b)) (msi_there s p) m
          ∙ same_test (a && b) (within (s.msi.at + f.pending) 4 i)
          (λ t.
          let g = both a b t in
          let x = within-true s.msi.at (form_of s).size i g.0 in
          let y = within-true (form_of s).pending 4 (i - s.msi.at) g.1 in
          true-within (s.msi.at + f.pending) 4 i (omega arith) (omega arith))
          (λ t.
          let x = within-true (s.msi.at + f.pending) 4 i t in
          and_intro a b (true-within s.msi.at (form_of s).size i (omega arith) (omega arith))
          (true-within (form_of s).pending 4 (i - s.msi.at) (omega arith) (omega arith)))

      pub shown-pending : within (s.msi.at + f.pending) 4 i ≡ true → byte (bytes_of 4 waiting) (i - (s.msi.at + f.pending)) ≡ byte_shown s line waiting i b
      unfolding byte_shown
      shown-pending w =
          let k : i - (s.msi.at + f.pending) ≡ i - s.msi.at - (form_of s).pending = omega (arith, ap (λ (g : Form). g.pending) e) in
          rw (ne_eqb i 6 o, in_register, w, k)

      pub shown-other : within (s.msi.at + f.pending) 4 i ≡ false → b ≡ byte_shown s line waiting i b
      unfolding byte_shown
      shown-other w = rw (ne_eqb i 6 o, in_register, w)

-- the Pending register ends by byte FFh
pub pending-fits : (s : Shape) (f : Form) → f ≡ form_of s → s.msi.masks ≡ true → f.pending + 4 ≡ (form_of s).size
pending-fits s f e m = rw e (sym (masked s m).last)

-- ---- the bytes of a function

shown_stored : (s : Shape) (u : Endpoint) (i : ℕ) → byte_shown s u.function.line u.function.waiting i (byte u.function.config i) ≡ shown s u i
unfolding shown byte_shown
shown_stored s u i = by_test (eqb i 6) (λ t. let q : i ≡ 6 = eqb-true i 6 t in rw q) (λ t. rw t)

-- n bytes from i on
pub value-shown : (s : Shape) (u : Endpoint) (i n : ℕ)
    → number (config_shown s u.function.line u.function.waiting u.function.config) i n ≡ number (shown s u) i n
value-shown s u i n =
    number_same (config_shown s u.function.line u.function.waiting u.function.config) (shown s u) i n (λ k h j. shown_stored s u k)

-- ---- Status

-- bit 3 is stored as 0
pub status_room : (s : Shape) (c : List ℕ) → zero_bits (stored_zero s) c ≡ true → 6 < length c → byte c 6 < 256 → byte c 6 ≤ 247
unfolding zero_bits stored_zero header_zero bit
status_room s c z h l =
    let e : bit_and 8 (byte c 6) ≡ 0 = eqb-true (bit_and 8 (byte c 6)) 0 (all-at (λ i b. eqb (bit_and (stored_zero s i) b) 0) c 6 z h) in
    let f : bit (byte c 6) 3 ≡ false = sym (bit-and 8 (byte c 6) 3) ∙ ap (λ (x : ℕ). bit x 3) e ∙ bit_of_zero 3 in
    let d : byte c 6 / 8 % 2 ≡ 0 = omega (arith, eqb-false (byte c 6 / 8 % 2) 1 f) in
    omega arith

-- each is a byte
pub shown-lt : (s : Shape) (line : Bool) (waiting : ℕ) (c : List ℕ) → ((k : ℕ) → byte c k < 256) → byte c 6 ≤ 247 → (i : ℕ) → config_shown s line waiting c i < 256
unfolding byte_shown
shown-lt s line waiting c h l i =
    by_test (eqb i 6)
    (λ t. rw t (let e : byte c i ≡ byte c 6 = ap (byte c) (eqb-true i 6 t) in omega (arith, of_bool-small line)))
    (λ t.
    rw t
    (cond_elim (λ (x : ℕ). x < 256) (in_msi s i && in_pending_register s (i - s.msi.at))
    (λ _. bytes_of_lt 4 waiting (i - s.msi.at - (form_of s).pending)) (λ _. h i)))
