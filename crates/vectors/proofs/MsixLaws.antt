-- The open vectors of MSI-X. Assumes nothing.
use mathlib.Core.Path.{◌≡◌, refl, sym, ◌∙◌}
use mathlib.Core.Bool.{Bool, true, false, not, ◌&&◌, and-false, and-true}
use Prim.Native.Nat.{ℕ, ◌≤◌, ◌<◌}
use lib.Dec.{ltb}
use borrow.Author.Tests.{lt-ltb, le-ltb}
use Rattle.model.specs.declared.Mode.TheVariants.{Msix}
use Rattle.model.specs.declared.Shape.{Shape}
use Rattle.model.specs.World.{Registers}
use Rattle.model.specs.Vectors.{masked, enabled, in_force, msix_control_bit, command_bit, is_open}
use Rattle.vectors.specs.Enabled.{msix_enabled}

-- the parts of an open vector in another order
swap : (a b c d e : Bool) → (a && (b && c) && d && e) ≡ (a && c && e && b && d)
swap false b c d e = refl
swap true false false d e = refl
swap true false true d false = refl
swap true false true d true = refl
swap true true false d e = refl
swap true true true false false = refl
swap true true true false true = refl
swap true true true true false = refl
swap true true true true true = refl

module _ (s : Shape) (r : Registers) (v : ℕ) where
  pub open_msix : is_open Msix s r v ≡ (msix_enabled s r && ltb v s.msix.vectors && not (masked Msix s r v))
  unfolding is_open enabled msix_enabled
  open_msix = swap (in_force Msix s r) (ltb v s.msix.vectors) (not (msix_control_bit s r 14)) (not (masked Msix s r v)) (command_bit r 2)

  pub no_vector : s.msix.vectors ≤ v → false ≡ is_open Msix s r v
  no_vector h = sym (open_msix ∙ rw (le-ltb v s.msix.vectors h, and-false))

  pub when_masked : masked Msix s r v ≡ true → false ≡ is_open Msix s r v
  when_masked e = sym (open_msix ∙ rw (e, and-false))

  pub when_clear : v < s.msix.vectors → masked Msix s r v ≡ false → msix_enabled s r ≡ is_open Msix s r v
  when_clear h e = sym (open_msix ∙ rw (lt-ltb v s.msix.vectors h, e, and-true, and-true))
