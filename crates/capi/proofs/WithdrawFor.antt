-- A withdrawal's value is a byte. Assumes nothing.
use mathlib.Core.Path.{◌≡◌, ap, ◌∙◌}
use mathlib.Core.List.{List, []}
use Prim.Native.Nat.{ℕ, ◌<◌}
use native.Mathlib.Omega.{arith}
use Rattle.model.specs.declared.Card.{Card}
use Rattle.model.specs.Answers.{value_of}
use Rattle.model.specs.World.{world_of}
use Rattle.model.specs.Calls as Calls
use Rattle.model.specs.Calls.{withdraw, step}
use Rattle.model.proofs.Calls.OutcomeLaws.{withdraw-numbers}
use Rattle.card.specs.declared.outcome.Outcome.{Outcome}
use Rattle.card.specs.Outcomes.{after}
use Rattle.capi.specs.declared.bytes.Numbers.{Numbers}
use Rattle.capi.specs.Numbers.{numbers_of}

pub was_small : (held : Card) (t p : List ℕ) (v : ℕ) (r : Outcome) (p' : List ℕ) (n : Numbers) → after r t p' [] ≡ step (world_of held t p) (withdraw v)
    → n ≡ numbers_of r.answer → n.value < 256
was_small held t p v r p' n q m =
    let e : n.value ≡ value_of (step (world_of held t p) (withdraw v)).answer = ap (λ (k : Numbers). k.value) m ∙ ap (λ (o : Calls.Outcome). value_of o.answer) q in
    omega (arith, e, (withdraw-numbers (world_of held t p) v).value)
