-- A start across the interface: the tests of its lengths, and the start. Assumes nothing.
use mathlib.Core.Path.{◌≡◌, sym, ap, ◌∙◌}
use mathlib.Core.Bool.{false, not}
use mathlib.Core.List.{List, []}
use Prim.Native.Nat.{ℕ, min}
use native.Mathlib.Omega.{arith}
use lib.Dec.{eqb}
use lib.ListN.{length}
use borrow.Author.Tests.{eq-eqb, ne_eqb}
use Rattle.words.proofs.BoolLaws.{row-passes, row-refuses, no_row}
use Rattle.model.specs.Answers.{value_of, event_code}
use Rattle.model.specs.Image.{card_bytes, card_in}
use Rattle.model.specs.Start.{given}
use Rattle.model.specs.World.{world_of, endpoint_of, zero_function}
use Rattle.model.specs.Calls as Calls
use Rattle.model.specs.Calls.{Operation, start, start_of, operate}
use Rattle.model.proofs.Calls.StartCalls.{start_buffers}
use Rattle.model.proofs.Calls.WideCalls.{wide_start}
use Rattle.model.proofs.Calls.OutcomeLaws.{start-bare}
use Rattle.image.proofs.CardLaws.{card_alone}
use Rattle.card.specs.declared.outcome.Outcome.{Outcome}
use Rattle.card.specs.Outcomes.{after}
use Rattle.capi.specs.declared.bytes.Numbers.{Numbers}
use Rattle.capi.specs.Numbers.{numbers_of}
use Rattle.capi.specs.Crossing.{handed, unread, card_after, crossed}
use Rattle.capi.proofs.CrossingFor.{stopped, through}

module _ (card t p config sizes : List ℕ) (events requester : ℕ) where
  abbrev o : Operation
  o = start config sizes events requester

  sixty : 60 ≡ unread card o → handed 60 card t p [] 0 0 0 ≡ crossed card t p o
  sixty e = stopped card t p o 60 e (λ z. omega arith)

  pub wrong_card : (length card ≡ 289 → ⊥) → handed 60 card t p [] 0 0 0 ≡ crossed card t p o
  unfolding unread
  wrong_card h = sixty (sym (row-refuses 60 _ (ap not (ne_eqb (length card) 289 h))))

  module _ (a : length card ≡ 289) where
    card-passes : not (eqb (length card) 289) ≡ false
    card-passes = ap not (eq-eqb (length card) 289 a)

    pub wrong-config : (length config ≡ 256 → ⊥) → handed 60 card t p [] 0 0 0 ≡ crossed card t p o
    unfolding unread
    wrong-config h = sixty (sym (row-passes 60 _ card-passes ∙ row-refuses 60 _ (ap not (ne_eqb (length config) 256 h))))

    module _ (b : length config ≡ 256) where
      config-passes : not (eqb (length config) 256) ≡ false
      config-passes = ap not (eq-eqb (length config) 256 b)

      pub wrong-sizes : (length sizes ≡ 6 → ⊥) → handed 60 card t p [] 0 0 0 ≡ crossed card t p o
      unfolding unread
      wrong-sizes h =
          sixty (sym (row-passes 60 _ card-passes ∙ row-passes 60 _ config-passes ∙ row-refuses 60 _ (ap not (ne_eqb (length sizes) 6 h))))

      module _ (c : length sizes ≡ 6) where
        right-lengths : unread card o ≡ 0
        unfolding unread
        right-lengths = row-passes 60 _ card-passes ∙ row-passes 60 _ config-passes ∙ row-passes 60 _ (ap not (eq-eqb (length sizes) 6 c)) ∙ no_row

        -- from the configuration and the sizes that the code copied, and the numbers e and q that it handed on
        pub starts-back : (bytes words : List ℕ) → bytes ≡ config → words ≡ sizes → (e q : ℕ) → e ≡ min events 65535 → q ≡ min requester 65535
            → (r : Outcome) (t' p' : List ℕ) → after r t' p' [] ≡ start_of (endpoint_of zero_function t p) (given bytes words e q (length t) (length p))
            → (n : Numbers) → n ≡ numbers_of r.answer → (card' : List ℕ) → card' ≡ card_bytes (world_of r.card [] [])
            → handed n.refusal card' t' p' [] 0 0 0 ≡ crossed card t p o
        unfolding card_after
        starts-back bytes words eb ew e q ee eq r t' p' k n m card' w =
            let d : after r t' p' [] ≡ operate (world_of (card_in card) t p) o =
            k ∙ (λ i. start_of (endpoint_of zero_function t p) (given (eb i) (ew i) (ee i) (eq i) (length t) (length p)))
            ∙ wide_start config sizes events requester (length t) (length p) (endpoint_of zero_function t p)
            ∙ start_buffers zero_function (card_in card).function t p (given config sizes events requester (length t) (length p)) in
            let z = start-bare (endpoint_of (card_in card).function t p) (given config sizes events requester (length t) (length p)) in
            through card t p o right-lengths r t' p' [] d card' n.refusal 0 0 0 (w ∙ sym (card_alone r.card t' p')) (ap (λ (x : Numbers). x.refusal) m)
            (sym z.plain.value ∙ sym (ap (λ (x : Calls.Outcome). value_of x.answer) d))
            (sym z.plain.event ∙ sym (ap (λ (x : Calls.Outcome). event_code x.answer) d)) (sym z.count ∙ sym (ap (λ (x : Calls.Outcome). x.count) d))
