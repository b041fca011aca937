-- `misplaced` meets its contract. Assumes nothing.
use Rattle.std.proofs.Common.{◌≡◌, ℕ, ◌+◌, true, false, List, ap, ap₂, sym, ◌∙◌}
use mathlib.Core.Option.{Option}
use Rattle.words.specs.Lists.{all}
use Rattle.words.specs.Bytes.{byte}
use Rattle.model.specs.Capabilities.{walk, capabilities, broken, listed}
use Rattle.layout.specs.Checks.{apart}
use Rattle.layout.specs.declared.capability.Places.{Places}
use Rattle.layout.proofs.Walks.{from_first, test_over, test_fails, test_more}
use Rattle.layout.proofs.Checks.{runs_past, by_headers}
use Rattle.layout.proofs.structure.misplaced.Goals as goal

pub returns-then-a-n-gt256 : goal.returns-then-a-n-gt256
returns-then-a-n-gt256 c = runs_past _ c.args.a c.args.n c.if-a-n-gt256.true

pub loop-at-init : goal.loop-at-init
loop-at-init c =
    let a = c.args in
    let f = a.c.now in
    let i = c.into_iter-at-iterator.ensures.into_iter_gives in
    let e = c.of-at-items.ensures in
    let s = c.into_iter-at-iterator.result in
    let w : walk f s.left s.link ≡ capabilities f =
    ap (λ (s : Places). walk f s.left s.link) i ∙ ap₂ (λ (k p : ℕ). walk f k p) e.2 e.1 ∙ from_first f in (
      ap (λ (s : Places). s.config.now) i ∙ e.0,
      ap broken w ∙ c.requires.0,
      ap (λ (w : Option (List ℕ)). all (apart a.a a.n) (listed w)) w,
    )

pub returns-then-not-apart : goal.returns-then-not-apart
returns-then-not-apart c =
    let a = c.args in
    let v = c.loop-at in
    let t = c.in-Some.ensures.steps in
    by_headers _ a.a a.n false c.if-a-n-gt256.false
    (test_fails a.c.now (apart a.a a.n) v.at-iterator.left v.at-iterator.link _ v.invariant.1 v.invariant.2 c.next.new.self.left c.in-Some.at t.3 t.0 t.1
    (sym c.apart.ensures ∙ c.if-not-apart.true))

pub loop-at-preserved : goal.loop-at-preserved
loop-at-preserved c =
    let a = c.args in
    let v = c.loop-at in
    let t = c.in-Some.ensures.steps in
    let link : c.next.new.self.link ≡ byte a.c.now (c.in-Some.at + 1) = t.4 ∙ ap (λ (l : List ℕ). byte l (c.in-Some.at + 1)) v.invariant.0 in
    let q =
    test_more a.c.now (apart a.a a.n) v.at-iterator.left v.at-iterator.link _ v.invariant.1 v.invariant.2 c.next.new.self.left c.in-Some.at t.3 t.0 t.1
    (sym c.apart.ensures ∙ c.if-not-apart.false) in
    (t.5 ∙ v.invariant.0, rw link q.0, rw link q.1)

pub returns : goal.returns
returns c =
    let a = c.args in
    let f = a.c.now in
    let v = c.loop-at in
    let s = c.next.new.self in
    let t = c.in-None.ensures.steps in
    by_headers _ a.a a.n true c.if-a-n-gt256.false
    (test_over f (apart a.a a.n) s.left s.link _
    (ap (λ (s : Places). broken (walk f s.left s.link)) t.0 ∙ v.invariant.1)
    (ap (λ (s : Places). all (apart a.a a.n) (listed (walk f s.left s.link))) t.0 ∙ v.invariant.2) t.1)
