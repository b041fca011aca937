-- 60 where the bytes are no switch's; else the going down on the switch that they hold, which is handed back. Assumes nothing.
use Rattle.std.proofs.lemmas.Bool.{not_from_false, not_from_true}
use mathlib.Core.Path.{◌≡◌}
use mathlib.Core.Bool.{true}
use mathlib.Core.List.{List}
use Prim.Native.Nat.{ℕ}
use Rattle.capi_switch.specs.Crossing.{is_switch}
use Rattle.capi_switch.proofs.CrossingFor.{found, switch-length, no_switch, through}
use borrow.Author.Rules.{rules}
use Rattle.capi_switch.proofs.calls.musgarento_switch_down.Statement.{statement}
use Rattle.capi_switch.proofs.calls.musgarento_switch_down.Tie as tie

-- the bytes that it is lent
abbrev lent : tie.After-is_switch → List ℕ
lent c =
    c.args.state.now

-- they are a switch's
read : (c : tie.Else-not-is_switch) → is_switch (lent c.before) ≡ true
read c = found _ _ c.is_switch.ensures (not_from_true _ c.if-not-is_switch.false)

returns : tie.Need-returns-then-not-is_switch
returns c = no_switch _ _ _ c.is_switch.ensures (not_from_false _ c.if-not-is_switch.true)

switch-of-requires : tie.Need-switch_of-held-requires
switch-of-requires c κs = switch-length _ (read c)

hand-back-requires : tie.Need-hand_back-requires
hand-back-requires c κs =
    switch-length _ (read c.before.before.before.before.before.before.before)

returns-2 : tie.Need-returns
returns-2 c =
    through _ _ _ _ _ _ _ (read c.before.before.before.before.before.before.before.before.before.before) c.switch_of-held.ensures c.down-outcome.ensures c.hand_back.ensures.0
    c.hand_back.ensures.1

pub musgarento_switch_down_spec : {M : Type 1} → statement M
musgarento_switch_down_spec =
    tie.close
    (tie.spec
    (λ c κs. search rules) (λ c. search rules)
    returns
    switch-of-requires
    (λ c κs. search rules)
    hand-back-requires
    (λ c. search rules) (λ c. search rules)
    returns-2)
