-- Refusals 3 and 4 by each way to find them. Assumes nothing.
use mathlib.Core.Path.{◌≡◌, sym, ap, ◌∙◌}
use mathlib.Core.Bool.{Bool, true, false, not, ◌||◌, false≢true}
use Prim.Native.Nat.{ℕ, ◌%◌, ◌≤◌, ◌<◌}
use native.Mathlib.Omega.{arith}
use lib.Dec.{ltb, eqb}
use borrow.Author.Tests.{eq-eqb, ne_eqb, lt-ltb, le-ltb, not-true, not-false}
use Rattle.model.specs.declared.Shape.{Shape}
use Rattle.model.specs.Registers.{in_table, in_pending}
use Rattle.model.specs.Calls.{bad_config, bad_bar}

-- a width is not 0, if its test f says so
pub width_positive : (f : ℕ → Bool) → f 0 ≡ false → (n : ℕ) (r : Bool) → r ≡ f n → not r ≡ false → 0 < n
width_positive f z n r e h = omega (arith, positive)
  where
    positive : n ≡ 0 → ⊥
    positive q = false≢true (sym z ∙ sym (ap f q) ∙ sym e ∙ not-false r h)

-- ---- 3

-- a width of 1, 2 or 4 bytes
abbrev pub is_width : ℕ → Bool
is_width n = eqb n 1 || eqb n 2 || eqb n 4

-- a test r of the width
module _ (o n : ℕ) (r : Bool) (e : r ≡ is_width n) where
  pub wrong_width : not r ≡ true → true ≡ bad_config o n
  unfolding bad_config
  wrong_width h = rw (← e, not-true r h)

  pub not_multiple : not r ≡ false → (o % n ≡ 0 → ⊥) → true ≡ bad_config o n
  unfolding bad_config
  not_multiple h m = rw (← e, not-false r h, ne_eqb (o % n) 0 m)

  pub above : not r ≡ false → o % n ≡ 0 → ltb 255 o ≡ bad_config o n
  unfolding bad_config
  above h m = rw (← e, not-false r h, eq-eqb (o % n) 0 m)

-- ---- 4

-- a width of 4 or 8 bytes
abbrev pub is_bar_width : ℕ → Bool
is_bar_width n = eqb n 4 || eqb n 8

pub bar_above : (s : Shape) (b o n : ℕ) → 5 < b → true ≡ bad_bar s b o n
unfolding bad_bar
bar_above s b o n h = rw (lt-ltb 5 b h)

-- a test r of the width
module _ (s : Shape) (b o n : ℕ) (r : Bool) (l : b ≤ 5) (e : r ≡ is_bar_width n) where
  pub bar_width : not r ≡ true → true ≡ bad_bar s b o n
  unfolding bad_bar
  bar_width h = rw (le-ltb 5 b l, ← e, not-true r h)

  pub bar_multiple : not r ≡ false → (o % n ≡ 0 → ⊥) → true ≡ bad_bar s b o n
  unfolding bad_bar
  bar_multiple h m = rw (le-ltb 5 b l, ← e, not-false r h, ne_eqb (o % n) 0 m)

  -- tests of the two places
  pub bar_table : (i : Bool) → not r ≡ false → o % n ≡ 0 → i ≡ in_table s b o → i ≡ true → false ≡ bad_bar s b o n
  unfolding bad_bar
  bar_table i h m d f = rw (le-ltb 5 b l, ← e, not-false r h, eq-eqb (o % n) 0 m, ← d, f)

  pub bar_pending : (i j : Bool) → not r ≡ false → o % n ≡ 0 → i ≡ in_table s b o → i ≡ false → j ≡ in_pending s b o → not j ≡ bad_bar s b o n
  unfolding bad_bar
  bar_pending i j h m d f g = rw (le-ltb 5 b l, ← e, not-false r h, eq-eqb (o % n) 0 m, ← d, f, g)
