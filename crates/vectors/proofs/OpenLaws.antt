-- Open vectors of any mechanism, and those that are owed. Assumes nothing.
use mathlib.Core.Path.{◌≡◌, sym, ap, ◌∙◌}
use mathlib.Core.Bool.{Bool, false, ◌&&◌, and-false}
use mathlib.Core.List.{[]}
use Prim.Native.Nat.{ℕ, ◌≤◌}
use native.Mathlib.Omega.{arith}
use lib.Bits.{bit_and}
use Rattle.words.specs.Lists.{keep, count}
use Rattle.words.specs.Bits.{bit}
use Rattle.words.proofs.BoolLaws.{by_test}
use Rattle.words.proofs.BitLaws.{bit-and}
use Rattle.words.proofs.ListLaws.{keep_same, keep-none, keep-below}
use Rattle.model.specs.declared.Mode.{Mode}
use Rattle.model.specs.declared.Mode.TheVariants.{Pin, Msi, Msix}
use Rattle.model.specs.declared.Shape.{Shape}
use Rattle.model.specs.World.{Endpoint, Registers, registers}
use Rattle.model.specs.Vectors.{enabled, is_open, waits, owed, vector_count, pending_bit}
use Rattle.model.proofs.Vectors.SweepLaws.{open_counted}
use Rattle.vectors.specs.Enabled.{msix_enabled}
use Rattle.vectors.proofs.MsixLaws.{open_msix}
use Rattle.vectors.proofs.CountLaws.{msi-count}

-- the pin has no vectors
pub pin_shut : (s : Shape) (r : Registers) (v : ℕ) → is_open Pin s r v ≡ false
unfolding is_open enabled
pin_shut s r v = rw and-false

-- the owed vectors are found among the k lowest numbers, if the mechanism has no more vectors
pub owed_among : (m : Mode) (s : Shape) (u : Endpoint) (k : ℕ) → vector_count m s ≤ k
    → owed m s u ≡ keep (λ v. is_open m s (registers u) v && waits m u v) (count 0 k)
unfolding owed
owed_among m s u k h =
    keep-below (λ v. is_open m s (registers u) v && waits m u v) (vector_count m s) k h
    (λ v l.
    by_test (is_open m s (registers u) v) (λ o. absurd (omega (arith, l, open_counted m s (registers u) v o)))
    (λ o. ap (λ (b : Bool). b && waits m u v) o))

-- MSI: w has a bit for each open vector
pub owed-msi : (s : Shape) (u : Endpoint) (w : ℕ) → s.msi.capable ≤ 5 → ((v : ℕ) → bit w v ≡ is_open Msi s (registers u) v)
    → owed Msi s u ≡ keep (bit (bit_and w u.function.waiting)) (count 0 32)
unfolding waits pending_bit
owed-msi s u w h e =
    owed_among Msi s u 32 (msi-count s h)
    ∙ keep_same (λ v. is_open Msi s (registers u) v && waits Msi u v) (bit (bit_and w u.function.waiting)) (count 0 32)
    (λ v m. ap (λ (b : Bool). b && bit u.function.waiting v) (sym (e v)) ∙ sym (bit-and w u.function.waiting v))

-- MSI-X sends nothing while it is not enabled
pub owed_shut : (s : Shape) (u : Endpoint) → msix_enabled s (registers u) ≡ false → owed Msix s u ≡ []
unfolding owed
owed_shut s u e =
    keep-none (λ v. is_open Msix s (registers u) v && waits Msix u v) (count 0 (vector_count Msix s))
    (λ v m. let o : is_open Msix s (registers u) v ≡ false = open_msix s (registers u) v ∙ rw e in rw o)
