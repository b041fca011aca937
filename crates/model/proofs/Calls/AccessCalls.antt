-- Reads and writes of the configuration and of a BAR: the rows that refuse them, and what a read gives. Assumes nothing.
use mathlib.Core.Path.{◌≡◌, refl, ap, ◌∙◌}
use mathlib.Core.Bool.{true, false, not}
use mathlib.Core.List.{List, [], ◌∷◌}
use Prim.Native.Nat.{ℕ}
use native.Mathlib.Omega.{arith}
use Rattle.words.specs.Lists.{first_of}
use Rattle.words.specs.Bytes.{number}
use Rattle.words.proofs.BoolLaws.{passed, row-passes, row-refuses}
use Rattle.model.specs.declared.Answer.TheVariants.{Value}
use Rattle.model.specs.Answers.{value_of}
use Rattle.model.specs.World.{World, Endpoint, registers}
use Rattle.model.specs.Vectors.{command_bit}
use Rattle.model.specs.Registers.{shown, bar_byte}
use Rattle.model.specs.Sound.{sound, shape}
use Rattle.model.specs.Calls.{Call, Outcome, config_read, config_write, bar_read, bar_write, bad_config, bad_bar, no_memory, rows, next, sends, answer_of, accepted, performed, step}
use Rattle.model.proofs.Calls.CallLaws.{performed-accepted, step_elim}

-- ---- the configuration

-- a call that reads or writes n bytes at offset o
pub data ConfigAccess (o n : ℕ) : Call → Type 0 where
  config-reads : ConfigAccess o n (config_read o n)
  config-writes : (x : ℕ) (out : List ℕ) → ConfigAccess o n (config_write o n x out)

config-rows : (u : Endpoint) (o n : ℕ) (c : Call) → ConfigAccess o n c → rows u c ≡ (3, bad_config o n) ∷ []
unfolding rows
config-rows u o n c config-reads = refl
config-rows u o n c (config-writes x out) = refl

-- 3
pub config-refused : (u : Endpoint) (o n : ℕ) (c : Call) → ConfigAccess o n c → bad_config o n ≡ true → first_of (rows u c) ≡ 3
config-refused u o n c a e = ap first_of (config-rows u o n c a) ∙ row-refuses 3 [] e

pub config_passed : (u : Endpoint) (o n : ℕ) (c : Call) → ConfigAccess o n c → bad_config o n ≡ false → first_of (rows u c) ≡ 0
unfolding first_of
config_passed u o n c a e = ap first_of (config-rows u o n c a) ∙ row-passes 3 [] e

-- a read that is not refused gives what is shown, and changes nothing
pub config-value : (w : World) (o n : ℕ) → bad_config o n ≡ false
    → performed w (config_read o n) ≡ accepted w (Value (number (shown (shape w.endpoint) w.endpoint) o n)) [] []
unfolding next sends answer_of
config-value w o n e = performed-accepted w (config_read o n) (config_passed w.endpoint o n (config_read o n) config-reads e) (omega arith)

-- the value of a read, 0 if it is refused
pub config-value_elim : (P : ℕ → Type 0) (w : World) (o n : ℕ) → (sound w ≡ true → bad_config o n ≡ false → P (number (shown (shape w.endpoint) w.endpoint) o n))
    → P 0 → P (value_of (step w (config_read o n)).answer)
unfolding rows answer_of value_of
config-value_elim P w o n f z =
    step_elim w (config_read o n) (λ (r : Outcome). P (value_of r.answer)) (λ p. f p.is_sound (passed 3 [] refl p.own).0) (λ _ _. z)

-- ---- a BAR

-- a call that reads or writes n bytes at offset o of BAR b
pub data BarAccess (b o n : ℕ) : Call → Type 0 where
  bar_reads : BarAccess b o n (bar_read b o n)
  bar_writes : (x : ℕ) (out : List ℕ) → BarAccess b o n (bar_write b o n x out)

bar_rows : (u : Endpoint) (b o n : ℕ) (c : Call) → BarAccess b o n c → rows u c ≡ (4, bad_bar (shape u) b o n) ∷ (5, no_memory u) ∷ []
unfolding rows
bar_rows u b o n c bar_reads = refl
bar_rows u b o n c (bar_writes x out) = refl

module _ (u : Endpoint) (b o n : ℕ) (c : Call) (a : BarAccess b o n c) where
  -- 4
  pub bar_refused : bad_bar (shape u) b o n ≡ true → first_of (rows u c) ≡ 4
  bar_refused e = ap first_of (bar_rows u b o n c a) ∙ row-refuses 4 _ e

  module _ (e : bad_bar (shape u) b o n ≡ false) where
    -- 5
    pub bar-no-memory : command_bit (registers u) 1 ≡ false → first_of (rows u c) ≡ 5
    unfolding no_memory
    bar-no-memory m = ap first_of (bar_rows u b o n c a) ∙ row-passes 4 _ e ∙ row-refuses 5 [] (ap not m)

    pub bar-passed : command_bit (registers u) 1 ≡ true → first_of (rows u c) ≡ 0
    unfolding no_memory first_of
    bar-passed m = ap first_of (bar_rows u b o n c a) ∙ row-passes 4 ((5, no_memory u) ∷ []) e ∙ row-passes 5 [] (ap not m)

pub bar-value : (w : World) (b o n : ℕ) → bad_bar (shape w.endpoint) b o n ≡ false → command_bit (registers w.endpoint) 1 ≡ true
    → performed w (bar_read b o n) ≡ accepted w (Value (number (bar_byte (shape w.endpoint) w.endpoint b) o n)) [] []
unfolding next sends answer_of
bar-value w b o n e m = performed-accepted w (bar_read b o n) (bar-passed w.endpoint b o n (bar_read b o n) bar_reads e m) (omega arith)
