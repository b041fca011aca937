-- The fields of each form lie inside the MSI capability. Assumes nothing.
use mathlib.Core.Path.{◌≡◌}
use mathlib.Core.Bool.{Bool, true, false, false≢true}
use Prim.Native.Nat.{◌+◌, ◌≤◌}
use native.Mathlib.Omega.{arith}
use Rattle.model.specs.declared.Shape.{Shape}
use Rattle.model.specs.Shape.{forms, form_of}

-- the mask register of the forms with masks
mask_fits : (masks wide : Bool) → masks ≡ true → (forms masks wide).mask + 4 ≤ (forms masks wide).size
unfolding forms
mask_fits false wide e = absurd (false≢true e)
mask_fits true false e = omega arith
mask_fits true true e = omega arith

pub mask_inside : (s : Shape) → s.msi.masks ≡ true → (form_of s).mask + 4 ≤ (form_of s).size
unfolding form_of
mask_inside s e = omega (arith, mask_fits s.msi.masks s.msi.wide e)

-- the data register
message-fits : (masks wide : Bool) → (forms masks wide).message + 2 ≤ (forms masks wide).size
unfolding forms
message-fits false false = omega arith
message-fits false true = omega arith
message-fits true false = omega arith
message-fits true true = omega arith

pub message_inside : (s : Shape) → (form_of s).message + 2 ≤ (form_of s).size
unfolding form_of
message_inside s = omega (arith, message-fits s.msi.masks s.msi.wide)

-- the upper address of the 64-bit forms
upper_fits : (masks wide : Bool) → wide ≡ true → 12 ≤ (forms masks wide).size
unfolding forms
upper_fits masks false e = absurd (false≢true e)
upper_fits false true e = omega arith
upper_fits true true e = omega arith

pub upper_inside : (s : Shape) → s.msi.wide ≡ true → 12 ≤ (form_of s).size
unfolding form_of
upper_inside s e = omega (arith, upper_fits s.msi.masks s.msi.wide e)
