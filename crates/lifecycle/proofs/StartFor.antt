-- The function and the buffers that a start gives, and each way out of a start. Assumes nothing.
use mathlib.Core.Path.{◌≡◌, sym, ap, ◌∙◌}
use mathlib.Core.Bool.{false}
use mathlib.Core.List.{List, []}
use Prim.Native.Nat.{ℕ}
use lib.ListN.{length, replicate}
use borrow.Author.Tests.{ne_eqb}
use Rattle.model.specs.declared.Answer.TheVariants.{Done}
use Rattle.model.specs.declared.Card.{Card}
use Rattle.model.specs.declared.Function.{Function}
use Rattle.model.specs.declared.Shape.{Shape}
use Rattle.model.specs.Shape.{shape_of}
use Rattle.model.specs.Registers.{started_config, started_table}
use Rattle.model.specs.World.{Endpoint, function_of, endpoint_of, zero_function}
use Rattle.model.specs.Start.{Given, start_refusal, started}
use Rattle.model.specs.Fit.{Fit}
use Rattle.model.specs.Calls.{accepted, start_of}
use Rattle.model.proofs.Calls.StartCalls as StartCalls
use Rattle.model.proofs.Sound.SoundLaws.{accepts}
use Rattle.model.proofs.Shapes.FitLaws.{fit}
use Rattle.card.specs.declared.outcome.Outcome.{Outcome}
use Rattle.card.specs.Outcomes.{refused_with, accepted_with, zero_card, after}

pub started_is : (config sizes : List ℕ) (events requester : ℕ) (s : Shape) (t p config' t' p' : List ℕ) → s ≡ shape_of config → Fit s (length t) (length p)
    → config' ≡ started_config s config → t' ≡ started_table s.msix.vectors → p' ≡ replicate (length p) 0
    → endpoint_of (function_of config' sizes events requester false 0) t' p' ≡ started config sizes events requester
started_is config sizes events requester s t p config' t' p' e f a b d = rw (a, b, d, f.pending, e)

-- ---- of a start with refusal n

-- not refused: the buffers fit
pub start_fits : (g : Given) (n : ℕ) (s : Shape) → n ≡ start_refusal g → n ≡ 0 → s ≡ shape_of g.config → Fit s g.table_length g.pending_length
start_fits g n s e h z = rw z (fit g (accepts g (sym e ∙ h)))

-- refused: the buffers t and p as they were
pub start-refused : (g : Given) (n : ℕ) (t p : List ℕ) (card : Card) (r : Outcome) → n ≡ start_refusal g → (n ≡ 0 → ⊥) → card ≡ zero_card → r ≡ refused_with card n
    → after r t p [] ≡ start_of (endpoint_of zero_function t p) g
start-refused g n t p card r e h k q = rw (q, k) (sym (StartCalls.start-refused (endpoint_of zero_function t p) g n (sym e) (ne_eqb n 0 h)))

-- accepted, with the function f and the buffers t' and p'
pub start-accepted : (g : Given) (n : ℕ) (u : Endpoint) (f : Function) (t' p' : List ℕ) (r : Outcome) → n ≡ start_refusal g → n ≡ 0
    → endpoint_of f t' p' ≡ started g.config g.sizes g.events g.requester → r ≡ accepted_with (record { function = f; wire = false }) Done 0
    → after r t' p' [] ≡ start_of u g
start-accepted g n u f t' p' r e h k q =
    rw q (ap (λ (v : Endpoint). accepted (record { endpoint = v; wire = false }) Done [] []) k ∙ sym (StartCalls.start-accepted u g (sym e ∙ h)))
