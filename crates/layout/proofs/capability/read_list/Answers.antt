-- `read_list` meets its contract: one law for each way of a turn. Assumes nothing.
use Rattle.std.proofs.Common.{◌≡◌, ℕ, ◌+◌, List, ap, ap₂, ◌∙◌}
use native.Mathlib.Omega.{arith}
use lib.Dec.{eqb}
use Rattle.words.specs.Bytes.{byte}
use Rattle.model.specs.Capabilities.{walk}
use Rattle.layout.specs.declared.capability.Found.TheVariants.{Nowhere}
use Rattle.layout.specs.declared.capability.Places.{Places}
use Rattle.layout.proofs.Walks.{counted, onward, onward_list, turn_over, turn_more}
use Rattle.layout.proofs.capability.read_list.Goals as goal

pub loop-at-init : goal.loop-at-init
loop-at-init c =
    let f = c.args.c.now in
    let e = c.of-places.ensures in
    (e.0, ap₂ (λ (k p : ℕ). onward f Nowhere Nowhere (walk f k p)) e.2 e.1 ∙ onward_list f, omega (arith, e.2), omega (arith, e.2))

-- what was found is no more than the places passed
pub with-msi-requires : goal.with-msi-requires
with-msi-requires c = omega (arith, c.in-Some.ensures.steps.3, c.loop-at.invariant.2)

pub with-msix-requires : goal.with-msix-requires
with-msix-requires c = omega (arith, c.in-Some.ensures.steps.3, c.loop-at.invariant.3)

pub loop-at-preserved : goal.loop-at-preserved
loop-at-preserved c =
    let f = c.args.c.now in
    let v = c.loop-at in
    let t = c.in-Some.ensures.steps in
    let id = byte f c.in-Some.at in
    let m = counted v.msi c.with-msi.result (eqb id 0x05) c.in-Some.at c.with-msi.ensures in
    let x = counted v.msix c.with-msix.result (eqb id 0x11) c.in-Some.at c.with-msix.ensures in
    let link : c.next.new.self.link ≡ byte f (c.in-Some.at + 1) = t.4 ∙ ap (λ (l : List ℕ). byte l (c.in-Some.at + 1)) v.invariant.0 in (
      t.5 ∙ v.invariant.0,
      rw (c.with-msix.ensures, c.with-msi.ensures, link)
          (turn_more f v.msi v.msix v.places.left v.places.link c.in-Some.at _ t.0 v.invariant.1 c.next.new.self.left t.3 t.1),
      omega (arith, m, t.3, v.invariant.2),
      omega (arith, x, t.3, v.invariant.3),
    )

pub returns : goal.returns
returns c =
    let f = c.args.c.now in
    let v = c.loop-at in
    let s = c.next.new.self in
    let t = c.in_default.ensures.steps in
    c.then_some.ensures
    ∙ turn_over f v.msi v.msix s.left s.link c.place.result _ c.place.ensures.0
    (ap (λ (s : Places). onward f v.msi v.msix (walk f s.left s.link)) t.0 ∙ v.invariant.1) t.1
