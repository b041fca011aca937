-- The row of two control bits: the table is the definition's values at 0 to 3, and the two bits are the row's. Assumes nothing.
use mathlib.Core.Path.{◌≡◌, refl, ap, ◌∙◌}
use mathlib.Core.Bool.{Bool, true, false}
use mathlib.Core.List.{List, [], ◌∷◌, map}
use Prim.Native.Nat.{ℕ, ◌+◌, ◌*◌, ◌≤◌, ◌<◌}
use native.Mathlib.Omega.{arith}
use lib.ListN.{get_or}
use mir.Val.{bool_byte}
use Rattle.words.specs.Lists.{count}
use Rattle.words.specs.Bits.{bit}
use Rattle.words.proofs.BitLaws.{flag_small}
use Rattle.words.proofs.ListLaws.{map-count}
use Rattle.model.specs.Shape.{row, forms}
use Rattle.model.specs.declared.Form.{Form}
use Rattle.layout.specs.declared.form.Row.{Row}
use Rattle.layout.proofs.form.form_row.Goals as goal

-- a row of the table holds a form
abbrev row_of : Form → Row
row_of f = record { message = f.message; mask = f.mask; pending = f.pending; size = f.size }

abbrev form_in : Row → Form
form_in r = row r.message r.mask r.pending r.size

table : List Row
table = row_of (row 0x08 0 0 10) ∷ row_of (row 0x0c 0 0 14) ∷ row_of (row 0x08 0x0c 0x10 20) ∷ row_of (row 0x0c 0x10 0x14 24) ∷ []

-- the form of a row's number: bit 0 of it says 64-bit, bit 1 says masks
form_at : ℕ → Form
form_at k = forms (bit k 1) (bit k 0)

rule : table ≡ map (λ k. row_of (form_at k)) (count 0 4)
unfolding table count form_at forms bit
rule = refl

below : (wide masks : Bool) → bool_byte wide + 2 * bool_byte masks < 4
below wide masks = omega (arith, flag_small wide, flag_small masks)

bits : (wide masks : Bool) → form_at (bool_byte wide + 2 * bool_byte masks) ≡ forms masks wide
unfolding form_at bit
bits false false = refl
bits false true = refl
bits true false = refl
bits true true = refl

at : (wide masks : Bool) (d : Row) → form_in (get_or table (bool_byte wide + 2 * bool_byte masks) d) ≡ forms masks wide
at wide masks d =
    ap form_in (rw rule (map-count (λ k. row_of (form_at k)) d 4 (bool_byte wide + 2 * bool_byte masks) (below wide masks))) ∙ bits wide masks

size_at : (masks wide : Bool) → (forms masks wide).size ≤ 24
unfolding forms
size_at false false = omega arith
size_at false true = omega arith
size_at true false = omega arith
size_at true true = omega arith

row_small : (wide masks : Bool) (d : Row) → (get_or table (bool_byte wide + 2 * bool_byte masks) d).size ≤ 24
row_small wide masks d = omega (arith, ap (λ (f : Form). f.size) (at wide masks d), size_at masks wide)

pub overflow_mul-row : goal.overflow_mul-row
overflow_mul-row c = omega (arith, flag_small c.args.s.msi.wide, flag_small c.args.s.msi.masks)

pub overflow_add-row : goal.overflow_add-row
overflow_add-row c = omega (arith, flag_small c.args.s.msi.wide, flag_small c.args.s.msi.masks)

pub offset_bounds-s : goal.offset_bounds-s
offset_bounds-s c = omega (arith, flag_small c.args.s.msi.wide, flag_small c.args.s.msi.masks)

pub bounds-s-s : goal.bounds-s-s
bounds-s-s c = omega (arith, flag_small c.args.s.msi.wide, flag_small c.args.s.msi.masks)

pub returns : goal.returns
unfolding table
returns c =
    let m = c.args.s.msi in
    (at m.wide m.masks _, row_small m.wide m.masks _)
