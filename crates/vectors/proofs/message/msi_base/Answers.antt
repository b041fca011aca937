-- Its parts, each by its own function. Assumes nothing.
use mathlib.Core.Path.{◌≡◌}
use Prim.Native.Nat.{ℕ, ◌-◌, ◌+◌, ◌*◌, ◌/◌, ◌%◌, ◌^◌, ◌≤◌, ◌<◌}
use native.Mathlib.Omega.{arith}
use native.Mathlib.Nat.{div-add-mod'}
use lib.ListN.{length}
use borrow.Author.Rules.{rules}
use Rattle.model.proofs.Shapes.PlaceLaws.{size_large}
use Rattle.model.specs.declared.Shape.{Shape}
use Rattle.model.specs.World.{Registers}
use Rattle.model.specs.Vectors.{granted}
use Rattle.model.specs.Packets.{msi_address, msi_data}
use Rattle.vectors.specs.Given.{regs}
use Rattle.vectors.specs.Messages.{msi_base}
use Rattle.vectors.proofs.GrantedLaws.{granted-room}
use Rattle.vectors.proofs.message.msi_base.Goals as goal

-- the low bits are taken off
low_bits : (x g : ℕ) → x - x % g ≡ x / g * g
low_bits x g = omega (arith, div-add-mod' x g)

-- a vector that is granted can be added
room : (s : Shape) (r : Registers) (x g : ℕ) → x ≡ msi_data s r → g ≡ granted s r → x < 2 ^ 32 → x - x % g + granted s r ≤ 4294967296
room s r x g e q l = rw (low_bits x g, q, e) (granted-room s r (rw e at l))

pub word32-requires : goal.word32-requires
word32-requires c =
    let n : length c.args.c.now ≡ 256 = search rules in
    omega (arith, n, c.requires.0, size_large c.args.s)

pub returns : goal.returns
unfolding msi_base msi_address
returns c =
    let x = c.msi_data-data.result in
    let g = c.granted-g.result in
    λ t. (
      rw (c.msi_upper-upper.ensures t, c.word32.ensures, low_bits, c.msi_data-data.ensures t, c.granted-g.ensures.0 t),
      room c.args.s (regs c.args.c.now t) x g (c.msi_data-data.ensures t) (c.granted-g.ensures.0 t) (search rules),
    )
