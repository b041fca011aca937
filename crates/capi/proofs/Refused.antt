-- What a refused function of the interface leaves: every byte as it was, but for the card of a start; and 60 is for lengths alone. Assumes nothing.
use mathlib.Core.Path.{◌≡◌, refl, sym, ap, ◌∙◌}
use mathlib.Core.Bool.{false, not}
use mathlib.Core.List.{List, []}
use mathlib.Core.Logic.{◌↔◌}
use Prim.Native.Nat.{ℕ}
use native.Mathlib.Omega.{arith}
use lib.Dec.{eqb}
use lib.ListN.{length, replicate}
use borrow.Author.Tests.{eqb-true, eqb-false, eq-eqb, ne_eqb}
use Rattle.words.specs.Lists.{lacks}
use Rattle.words.proofs.BoolLaws.{by_test, first-lacks, row-passes, row-refuses}
use Rattle.model.specs.Answers.{refusal_of, is_accepted}
use Rattle.model.specs.World.{World, Endpoint, world_of}
use Rattle.model.specs.Image.{card_bytes, card_in}
use Rattle.model.specs.Start.{Given}
use Rattle.model.specs.Claims.{Unchanged}
use Rattle.model.specs.Calls.{Call, Outcome, Operation, call, start, restore, output_of, start_of, start_given, zero_world, operate, lent_output}
use Rattle.model.proofs.Refusals as Refusals
use Rattle.model.proofs.Refusals.{refused_unchanged, not_sixty}
use Rattle.model.proofs.Calls.AnswerLaws.{not-accepted, refused_code}
use Rattle.model.proofs.Image.ImageLaws.{zero-bytes}
use Rattle.capi.specs.Crossing.{Crossed, handed, unread, card_after, back, crossed}
use Rattle.capi.specs.Hosts.{RightLengths}
use Rattle.capi.proofs.CrossingFor.{stopped, read_through}

number_of : (x : Crossed) (n : ℕ) (card t p out : List ℕ) → x ≡ handed n card t p out 0 0 0 → x ≡ handed x.refusal card t p out 0 0 0
number_of x n card t p out e = e ∙ ap (λ (k : ℕ). handed k card t p out 0 0 0) (sym (ap (λ (y : Crossed). y.refusal) e))

-- a refused outcome leaves the world w and the output
refused-back : (card : List ℕ) (o : Operation) (w : World) (out : List ℕ) (r : Outcome) → (is_accepted r.answer ≡ false → Unchanged w out r)
    → (refusal_of r.answer ≡ 0 → ⊥)
    → back card o r ≡ handed (refusal_of r.answer) (card_after card o r) w.endpoint.table w.endpoint.pending out 0 0 0
refused-back card o w out r f h =
    let n = not-accepted r.answer h in
    let k : Unchanged w out r = f n in
    λ i. handed (refusal_of r.answer) (card_after card o r) (k.world i).endpoint.table (k.world i).endpoint.pending (k.output i) (k.value i)
    (refused_code r.answer n i) (k.count i)

-- ---- every byte as it was

module _ (card t p : List ℕ) where
  -- an operation whose refusal leaves the card's bytes
  stays : (o : Operation)
      → (is_accepted (operate (world_of (card_in card) t p) o).answer ≡ false → Unchanged (world_of (card_in card) t p) (lent_output o) (operate (world_of (card_in card) t p) o))
      → ((r : Outcome) → (refusal_of r.answer ≡ 0 → ⊥) → card_after card o r ≡ card)
      → ((crossed card t p o).refusal ≡ 0 → ⊥) → crossed card t p o ≡ handed (crossed card t p o).refusal card t p (lent_output o) 0 0 0
  stays o f k h =
      by_test (eqb (unread card o) 0)
      (λ e.
      let q = read_through card t p o (eqb-true (unread card o) 0 e) in
      let r : Outcome = operate (world_of (card_in card) t p) o in
      let z : refusal_of r.answer ≡ 0 → ⊥ = λ z. h (ap (λ (x : Crossed). x.refusal) q ∙ z) in
      number_of (crossed card t p o) (refusal_of r.answer) card t p (lent_output o)
      (q ∙ refused-back card o (world_of (card_in card) t p) (lent_output o) r f z
      ∙ ap (λ (l : List ℕ). handed (refusal_of r.answer) l t p (lent_output o) 0 0 0) (k r z)))
      (λ e.
      number_of (crossed card t p o) (unread card o) card t p (lent_output o) (sym (stopped card t p o (unread card o) refl (eqb-false (unread card o) 0 e))))

  -- a refused call of a running card changes no byte, and gives 0 for each number
  pub refused-call : (c : Call) → ((crossed card t p (call c)).refusal ≡ 0 → ⊥)
      → crossed card t p (call c) ≡ handed (crossed card t p (call c)).refusal card t p (output_of c) 0 0 0
  unfolding card_after
  refused-call c = stays (call c) (refused_unchanged (world_of (card_in card) t p) c) (λ r z. rw (ne_eqb (refusal_of r.answer) 0 z))

  -- a refused restore leaves the bytes of the card that it was given, whatever they are
  pub refused-restore : (image : List ℕ) → ((crossed card t p (restore image)).refusal ≡ 0 → ⊥)
      → crossed card t p (restore image) ≡ handed (crossed card t p (restore image)).refusal card t p [] 0 0 0
  unfolding card_after
  refused-restore image = stays (restore image) (Refusals.refused-restore (world_of (card_in card) t p) image) (λ r z. rw (ne_eqb (refusal_of r.answer) 0 z))

  -- a start that is refused leaves a card of zeros, or with 60 the bytes that it was given
  module _ (config sizes : List ℕ) (events requester : ℕ) where
    abbrev o : Operation
    o = start config sizes events requester

    pub refused-start : unread card o ≡ 0 → ((crossed card t p o).refusal ≡ 0 → ⊥)
        → crossed card t p o ≡ handed (crossed card t p o).refusal (replicate 289 0) t p [] 0 0 0
    unfolding card_after
    refused-start x h =
        let u : Endpoint = (world_of (card_in card) t p).endpoint in
        let g : Given = start_given u config sizes events requester in
        let q = read_through card t p o x in
        let f = Refusals.refused-start u g in
        let z : refusal_of (start_of u g).answer ≡ 0 → ⊥ = λ z. h (ap (λ (k : Crossed). k.refusal) q ∙ z) in
        number_of _ (refusal_of (start_of u g).answer) (replicate 289 0) t p []
        (q ∙ refused-back card o (zero_world u) [] (start_of u g) f z
        ∙ ap (λ (l : List ℕ). handed (refusal_of (start_of u g).answer) l t p [] 0 0 0)
        (ap card_bytes (f (not-accepted (start_of u g).answer z)).world ∙ zero-bytes u))

    pub refused-start-lengths : unread card o ≡ 60 → crossed card t p o ≡ handed 60 card t p [] 0 0 0
    refused-start-lengths x = sym (stopped card t p o 60 (sym x) (λ z. omega arith))

-- ---- 60 is for lengths alone

wrong_lengths : (card : List ℕ) (o : Operation) → (RightLengths card o → ⊥) → unread card o ≡ 60
unfolding unread
wrong_lengths card (call c) h =
    by_test (eqb (length card) 289) (λ a. absurd (h (eqb-true (length card) 289 a))) (λ a. row-refuses 60 _ (ap not a))
wrong_lengths card (start config sizes events requester) h =
    by_test (eqb (length card) 289)
    (λ a.
    row-passes 60 _ (ap not a)
    ∙ by_test (eqb (length config) 256)
    (λ b.
    row-passes 60 _ (ap not b)
    ∙ by_test (eqb (length sizes) 6)
    (λ c. absurd (h (eqb-true (length card) 289 a, eqb-true (length config) 256 b, eqb-true (length sizes) 6 c)))
    (λ c. row-refuses 60 _ (ap not c)))
    (λ b. row-refuses 60 _ (ap not b)))
    (λ a. row-refuses 60 _ (ap not a))
wrong_lengths card (restore image) h =
    by_test (eqb (length card) 289) (λ a. absurd (h (eqb-true (length card) 289 a))) (λ a. row-refuses 60 _ (ap not a))

right-lengths : (card : List ℕ) (o : Operation) → RightLengths card o → eqb (unread card o) 60 ≡ false
unfolding unread lacks
right-lengths card (call c) a =
    ap (λ (n : ℕ). eqb n 60) (row-passes 60 _ (ap not (eq-eqb (length card) 289 a))) ∙ first-lacks 60 _ refl refl
right-lengths card (start config sizes events requester) (a, b, c) =
    ap (λ (n : ℕ). eqb n 60)
    (row-passes 60 _ (ap not (eq-eqb (length card) 289 a)) ∙ row-passes 60 _ (ap not (eq-eqb (length config) 256 b))
    ∙ row-passes 60 _ (ap not (eq-eqb (length sizes) 6 c)))
    ∙ first-lacks 60 _ refl refl
right-lengths card (restore image) a =
    ap (λ (n : ℕ). eqb n 60) (row-passes 60 _ (ap not (eq-eqb (length card) 289 a))) ∙ first-lacks 60 _ refl refl

-- a function returns 60 exactly if card, configuration or sizes have another length
pub lengths_exact : (card t p : List ℕ) (o : Operation) → ((crossed card t p o).refusal ≡ 60) ↔ (RightLengths card o → ⊥)
lengths_exact card t p o = (
  λ e h.
      by_test (eqb (unread card o) 0)
      (λ z.
      eqb-false _ 60 (not_sixty (world_of (card_in card) t p) o) (sym (ap (λ (x : Crossed). x.refusal) (read_through card t p o (eqb-true (unread card o) 0 z))) ∙ e))
      (λ z.
      eqb-false (unread card o) 60 (right-lengths card o h)
      (ap (λ (x : Crossed). x.refusal) (stopped card t p o (unread card o) refl (eqb-false (unread card o) 0 z)) ∙ e)),
  λ h. sym (ap (λ (x : Crossed). x.refusal) (stopped card t p o 60 (sym (wrong_lengths card o h)) (λ z. omega arith))),
)
