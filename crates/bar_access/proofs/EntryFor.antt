-- One entry of the MSI-X table by itself, and a write that reaches it. Assumes nothing.
use mathlib.Core.Path.{◌≡◌, sym, ap, ◌∙◌}
use mathlib.Core.Bool.{Bool, true, false, ◌&&◌, and-false, and-true}
use mathlib.Core.List.{List}
use Prim.Native.Nat.{ℕ, ◌+◌, ◌-◌, ◌*◌, ◌/◌, ◌%◌, ◌≤◌, ◌<◌}
use native.Mathlib.Omega.{arith}
use lib.ListN.{length, get_or-append}
use Rattle.words.specs.Lists.{within}
use Rattle.words.specs.Bytes.{byte, bytes_of}
use Rattle.words.specs.Writers.{over}
use Rattle.words.proofs.ByteLaws.{length-bytes_of}
use Rattle.words.proofs.ListLaws.{within_shift}
use Rattle.model.specs.declared.Mode.TheVariants.{Msix}
use Rattle.model.specs.declared.Profile.{Profile}
use Rattle.model.specs.World.{Endpoint, with_waiting}
use Rattle.model.specs.Registers.{entry_writable, written}
use Rattle.model.specs.Vectors.{same_mode, is_open, waits}
use Rattle.model.proofs.Registers.WriteLaws.{byte-written}
use Rattle.model.proofs.Registers.EntryLaws.{entry-writable}
use Rattle.model.proofs.Vectors.SweepLaws.{in-force, other_shut}
use Rattle.vectors.specs.Given.{regs, InForce, Profiled}
use Rattle.vectors.specs.Enabled.{msix_enabled}
use Rattle.vectors.specs.Entries.{IsEntry, mask_in}
use Rattle.vectors.proofs.MsixLaws.{when_masked, when_clear}
use Rattle.vectors.proofs.EntryLaws.{entry-mask}

-- ---- the entry after a write

-- n bytes at place `at` of the table, and at place `at` % 16 of the entry
module _ (at n : ℕ) where
  reached : (i : ℕ) → within (at % 16) n i ≡ within at n (16 * (at / 16) + i)
  reached i =
      let e : 16 * (at / 16) + at % 16 ≡ at = omega arith in
      within_shift (16 * (at / 16)) (at % 16) n i ∙ ap (λ (k : ℕ). within k n (16 * (at / 16) + i)) e

  -- e holds the entry before the write
  entry-written : (t e : List ℕ) (x : ℕ) → IsEntry e t (at / 16) → 16 ≤ length e → 16 * (at / 16) + 16 ≤ length t
      → IsEntry (written entry_writable e (at % 16) (bytes_of n x)) (written entry_writable t at (bytes_of n x)) (at / 16)
  entry-written t e x same he ht i h =
      let k : ℕ = 16 * (at / 16) + i in
      let j : i - at % 16 ≡ k - at = omega arith in
      let r : within (at % 16) (length (bytes_of n x)) i ≡ within at (length (bytes_of n x)) k = rw (length-bytes_of n x) (reached i) in
      byte-written entry_writable e (at % 16) (bytes_of n x) i (omega arith)
      ∙ rw (same i h, r, sym (entry-writable (at / 16) i), j) (sym (byte-written entry_writable t at (bytes_of n x) k (omega arith)))

-- its 16 bytes p copied over o, and written
pub entry_copied : (t p o e e' : List ℕ) (at n x : ℕ) → (length p ≡ 16) × IsEntry p t (at / 16) → e ≡ over p o
    → e' ≡ written entry_writable e (at % 16) (bytes_of n x) → 16 * (at / 16) + 16 ≤ length t → 16 ≤ length e → IsEntry e' (written entry_writable t at (bytes_of n x)) (at / 16)
entry_copied t p o e e' at n x f a b h l i j =
    let same : IsEntry e t (at / 16) = λ k m. ap (λ (z : List ℕ). byte z k) a ∙ get_or-append p _ 0 k (omega (arith, f.0)) ∙ f.1 k m in
    ap (λ (z : List ℕ). byte z i) b ∙ entry-written at n t e x same l h i j

-- ---- vector v is open and waits, by each way to find it: k is what the configuration c says

module _ (c : List ℕ) (k : Profile) (f : Profiled c k) where
  pub owed_force : same_mode Msix k.mode ≡ true → InForce Msix k.shape c
  owed_force h t = f.mode t ∙ in-force Msix k.mode h

  -- a table t, a pending array p and a function u that they belong to
  module _ (t p : List ℕ) (u : Endpoint) (v : ℕ) where
    abbrev is_owed : Bool
    is_owed = is_open Msix k.shape (regs c t) v && waits Msix (with_waiting u 0 p) v

    -- another mechanism is in force
    pub owed_other : same_mode Msix k.mode ≡ false → false ≡ is_owed
    owed_other h =
        ap (λ (x : Bool). x && waits Msix (with_waiting u 0 p) v)
        (sym (other_shut Msix k.shape (regs c t) v (ap (same_mode Msix) (f.mode t) ∙ h)))

    pub owed-idle : waits Msix (with_waiting u 0 p) v ≡ false → false ≡ is_owed
    owed-idle h = rw h (sym (and-false (is_open Msix k.shape (regs c t) v)))

    -- e holds the entry of v
    module _ (e : List ℕ) (same : IsEntry e t v) where
      pub owed-masked : mask_in e ≡ true → false ≡ is_owed
      owed-masked h =
          ap (λ (x : Bool). x && waits Msix (with_waiting u 0 p) v)
          (when_masked k.shape (regs c t) v (sym (entry-mask e t v same k.shape c) ∙ h))

      pub owed-open : waits Msix (with_waiting u 0 p) v ≡ true → mask_in e ≡ false → v < k.shape.msix.vectors → msix_enabled k.shape (regs c t) ≡ is_owed
      owed-open h g l =
          when_clear k.shape (regs c t) v l (sym (entry-mask e t v same k.shape c) ∙ g)
          ∙ sym (ap (λ (x : Bool). is_open Msix k.shape (regs c t) v && x) h ∙ and-true (is_open Msix k.shape (regs c t) v))
