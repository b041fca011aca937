-- 60 by each wrong length in turn; else the start, its card handed back. Assumes nothing.
use Rattle.std.proofs.Common.{◌≡◌, length, rules}
use Rattle.capi.proofs.StartFor.{wrong_card, wrong-config, wrong-sizes, starts-back}
use Rattle.capi.proofs.starts.musgarento_start.Goals as goal

pub returns-then-card-ne-CARD : goal.returns-then-card-ne-CARD
returns-then-card-ne-CARD c = rw c.number.ensures (wrong_card _ _ _ _ _ _ _ c.if-card-ne-CARD.true)

pub returns-in_default : goal.returns-in_default
returns-in_default c =
    let other : length c.args.config.now ≡ 256 → ⊥ = search rules in
    rw c.number-in_default.ensures (wrong-config _ _ _ _ _ _ _ c.if-card-ne-CARD.false other)

pub returns-in_default-as_array : goal.returns-in_default-as_array
returns-in_default-as_array c =
    let other : length c.args.sizes.now ≡ 6 → ⊥ = search rules in
    rw c.number-in_default-as_array.ensures (wrong-sizes _ _ _ _ _ _ _ c.if-card-ne-CARD.false c.in-Some.ensures.cases.long other)

pub returns : goal.returns
returns c =
    let e = c.in-Some in let f = c.in-Some-as_array in
    starts-back _ _ _ _ _ _ _ c.if-card-ne-CARD.false e.ensures.cases.long f.ensures.cases.long _ _ e.ensures.cases.same
    f.ensures.cases.same _ _ c.narrow16.ensures c.narrow16-2.ensures _ _ _ c.start-outcome.ensures _
    c.hand_out-numbers.ensures.0 _ c.hand_out-numbers.ensures.1
