use mathlib.Core.Path.{◌≡◌, ap}
use mathlib.Core.Bool.{Bool}
use mathlib.Core.List.{List}
use Prim.Native.Nat.{ℕ, suc, ◌+◌, ◌-◌, ◌*◌, ◌^◌, ◌≤◌, ◌<◌}
use native.Mathlib.Nat.{sub_self, pow-le-pow_right}
use native.Mathlib.Omega.{arith}
use lib.ListN.{length}
use Rattle.words.specs.Bytes.{byte, number}
use Rattle.words.proofs.ByteLaws.{number_lt}
use Rattle.words.proofs.NumberLaws.{number_more}
use Rattle.model.specs.declared.Form.{Form}
use Rattle.model.specs.declared.Shape.{Shape}
use Rattle.registers.specs.Shown.{config_shown, Readable}
use Rattle.registers.proofs.ShownLaws.{status_room, shown-lt}
use Rattle.registers.proofs.config.config_value.Goals as goal

module _ (l : List ℕ) (line : Bool) (waiting : ℕ) (s : Shape) (f : Form) (at n : ℕ) (r : Readable l s f at n) (e : length l ≡ 256) (b : (k : ℕ) → byte l k < 256) where
  -- Status has bit 3 free
  room : byte l 6 ≤ 247
  room = status_room s l r.clean (omega (arith, e)) (b 6)

  -- in a turn at most three bytes are read already
  small : (i x : ℕ) → at < i → i ≤ at + n → x ≡ number (config_shown s line waiting l) i (at + n - i) → x < 256 ^ 3
  small i x h k q =
      let m = at + n - i in
      let d : m ≤ 3 = omega (arith, r.few) in
      let p : 256 ^ m ≤ 256 ^ 3 = pow-le-pow_right (omega arith) d in
      omega (arith, q, number_lt (config_shown s line waiting l) i m (shown-lt s line waiting l b room))

  -- one byte more
  more : (i x y : ℕ) → at < i → i ≤ at + n → x ≡ number (config_shown s line waiting l) i (at + n - i) → y ≡ config_shown s line waiting l (i - 1)
      → x * 256 + y ≡ number (config_shown s line waiting l) (i - 1) (at + n - (i - 1))
  more i x y h k q d =
      let shows = config_shown s line waiting l in
      let m = at + n - i in
      let j : at + n - (i - 1) ≡ suc m = omega arith in
      let u : suc (i - 1) ≡ i = omega arith in
      rw j (omega (arith, number_more shows (i - 1) m, ap (λ (k : ℕ). number shows k m) u, q, d))

pub loop-i-init : goal.loop-i-init
unfolding number
loop-i-init c = (omega arith, rw sub_self)

pub overflow_mul-r : goal.overflow_mul-r
overflow_mul-r c =
    let a = c.args in
    let v = c.loop-i in
    omega (arith, small a.c.now a.line a.waiting a.s a.f a.at a.n c.requires c.told-c c.fits-c v.i v.r c.loop-i-test.true v.auto.i v.invariant.1)

pub shown_byte-requires : goal.shown_byte-requires
shown_byte-requires c =
    let a = c.args in
    (c.requires.ends, c.requires.form, λ e. rw e (room a.c.now a.line a.waiting a.s a.f a.at a.n c.requires c.told-c c.fits-c))

pub overflow_add-r : goal.overflow_add-r
overflow_add-r c =
    let a = c.args in
    let v = c.loop-i in
    omega (arith, small a.c.now a.line a.waiting a.s a.f a.at a.n c.requires c.told-c c.fits-c v.i v.r c.loop-i-test.true v.auto.i v.invariant.1)

pub loop-i-preserved : goal.loop-i-preserved
loop-i-preserved c =
    let a = c.args in
    let v = c.loop-i in (
      omega (arith, c.loop-i-test.true),
      more a.c.now a.line a.waiting a.s a.f a.at a.n c.requires c.told-c c.fits-c v.i v.r c.shown_byte.result c.loop-i-test.true v.auto.i v.invariant.1 c.shown_byte.ensures,
    )
