-- The bytes are compared with those that the writer makes of the fields. Assumes nothing.
use Rattle.std.proofs.Common.{sym, ap, refl, ◌∙◌}
use mathlib.Core.List.{List}
use Prim.Native.Nat.{ℕ}
use Rattle.words.specs.Lists.{same}
use Rattle.tlp.proofs.DecodeLaws.{message_compared}
use Rattle.tlp.proofs.decode.as_message.Goals as goal

pub returns-then-m-eq0 : goal.returns-then-m-eq0
returns-then-m-eq0 c =
    c.then_some.ensures
    ∙ message_compared c.args.s.now c.args.m 0 _ (sym c.if-m-eq0.true) (c.same.ensures ∙ ap (λ (p : List ℕ). same c.args.s.now p) c.bytes.ensures)

pub returns : goal.returns
returns c =
    c.then_some-2.ensures
    ∙ message_compared c.args.s.now c.args.m _ _ refl (c.same-2.ensures ∙ ap (λ (p : List ℕ). same c.args.s.now p) c.bytes-2.ensures)
