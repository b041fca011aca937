-- From the code's outcome to what crosses. Assumes nothing.
use mathlib.Core.Path.{◌≡◌, refl, sym, ap, ◌∙◌}
use mathlib.Core.Bool.{cond, not}
use mathlib.Core.List.{List, []}
use Prim.Native.Nat.{ℕ}
use native.Mathlib.Omega.{arith}
use lib.Dec.{eqb}
use lib.ListN.{length}
use borrow.Author.Tests.{eq-eqb, ne_eqb, eqb-true, eqb-false}
use Rattle.words.specs.Bytes.{Bytes}
use Rattle.words.proofs.BoolLaws.{by_test, cond_elim, row-passes, row-refuses, no_row}
use Rattle.model.specs.declared.Card.{Card}
use Rattle.model.specs.Answers.{refusal_of, value_of, event_code}
use Rattle.model.specs.World.{world_of, card_of}
use Rattle.model.specs.declared.refusal.Refusal.{Refusal}
use Rattle.model.specs.Refusals.{number_of}
use Rattle.model.proofs.RefusalLaws.{not_zero}
use Rattle.model.specs.Image.{card_bytes, card_in}
use Rattle.model.specs.Calls as Calls
use Rattle.model.specs.Calls.{Call, Operation, call, restore, operate, step, restore_of, lent_output}
use Rattle.model.proofs.Calls.OutcomeLaws.{Reads, Plain, restore-bare}
use Rattle.model.proofs.CardExact.{card-kept}
use Rattle.image.proofs.CardLaws.{card_alone}
use Rattle.card.specs.declared.outcome.Outcome.{Outcome}
use Rattle.card.specs.Outcomes.{after}
use Rattle.capi.specs.declared.bytes.Numbers.{Numbers}
use Rattle.capi.specs.Numbers.{numbers_of}
use Rattle.capi.specs.Crossing.{Crossed, handed, unread, card_over, card_after, back, crossed}
use Rattle.capi.proofs.CardFor.{Readable}

-- refused before the card is read, with the number n
pub stopped : (card t p : List ℕ) (o : Operation) (n : ℕ) → n ≡ unread card o → (n ≡ 0 → ⊥) → handed n card t p (lent_output o) 0 0 0 ≡ crossed card t p o
unfolding crossed
stopped card t p o n e h = rw (← e, ne_eqb n 0 h)

-- by the code's test, whose number is n
pub not_read : (card t p : List ℕ) (c : Call) (why : Refusal) → ((c' : Call) → number_of why ≡ unread card (call c')) → (n : ℕ) → n ≡ number_of why
    → handed n card t p (lent_output (call c)) 0 0 0 ≡ crossed card t p (call c)
not_read card t p c why u n m = stopped card t p (call c) n (m ∙ u c) (λ z. not_zero why (sym m ∙ z))

-- or read: the operation on the card that the bytes hold
pub read_through : (card t p : List ℕ) (o : Operation) → unread card o ≡ 0 → crossed card t p o ≡ back card o (operate (world_of (card_in card) t p) o)
unfolding crossed
read_through card t p o x = rw x

-- a function that returns 0 read its card
pub zero_read : (card t p : List ℕ) (o : Operation) → (crossed card t p o).refusal ≡ 0 → unread card o ≡ 0
zero_read card t p o e =
    by_test (eqb (unread card o) 0) (eqb-true (unread card o) 0)
    (λ z.
    let n = eqb-false (unread card o) 0 z in
    absurd (n (ap (λ (x : Crossed). x.refusal) (stopped card t p o (unread card o) refl n) ∙ e)))

-- the operation o gave the outcome r, with the later buffers t', p' and out'
module _ (card t p : List ℕ) (o : Operation) (x : unread card o ≡ 0) (r : Outcome) (t' p' out' : List ℕ)
    (q : after r t' p' out' ≡ operate (world_of (card_in card) t p) o) where
  pub through : (card' : List ℕ) (n v a k : ℕ) → card' ≡ card_after card o (after r t' p' out') → n ≡ refusal_of r.answer → v ≡ value_of r.answer
      → a ≡ event_code r.answer → k ≡ r.count → handed n card' t' p' out' v a k ≡ crossed card t p o
  unfolding crossed
  through card' n v a k ec en ev ea ek = (λ i. handed (en i) (ec i) t' p' out' (ev i) (ea i) (ek i)) ∙ ap (back card o) q ∙ rw x

-- the lent buffers are no part of a card's bytes
pub over_alone : (n : ℕ) (bytes : List ℕ) (c : Card) (t p : List ℕ) → card_over n bytes (world_of c [] []) ≡ card_over n bytes (world_of c t p)
over_alone n bytes c t p = ap (λ (l : List ℕ). cond (eqb n 0) l bytes) (sym (card_alone c t p))

-- ---- a call on the card that the bytes hold

module _ (card t p : List ℕ) (c : Call) (x : unread card (call c) ≡ 0) (held : Card) (d : held ≡ card_in card) (r : Outcome) (t' p' out' : List ℕ)
    (q : after r t' p' out' ≡ step (world_of held t p) c) (n : Numbers) (m : n ≡ numbers_of r.answer) where
  outcome : after r t' p' out' ≡ step (world_of (card_in card) t p) c
  outcome = q ∙ ap (λ (k : Card). step (world_of k t p) c) d

  none : (f : Calls.Outcome → ℕ) → f (step (world_of held t p) c) ≡ 0 → 0 ≡ f (after r t' p' out')
  none f z = sym z ∙ sym (ap f q)

  -- the card is handed back
  module _ (card' : List ℕ) (w : card' ≡ card_over (refusal_of r.answer) card (world_of r.card [] [])) where
    written : card' ≡ card_after card (call c) (after r t' p' out')
    unfolding card_after
    written = w ∙ over_alone (refusal_of r.answer) card r.card t' p'

    pub sends-back : Plain (step (world_of held t p) c) → handed n.refusal card' t' p' out' 0 0 r.count ≡ crossed card t p (call c)
    sends-back z =
        through card t p (call c) x r t' p' out' outcome card' n.refusal 0 0 r.count written (ap (λ (k : Numbers). k.refusal) m)
        (none (λ k. value_of k.answer) z.value) (none (λ k. event_code k.answer) z.event) refl

    pub answers-back : value_of (step (world_of held t p) c).answer ≡ 0 → handed n.refusal card' t' p' out' 0 n.event r.count ≡ crossed card t p (call c)
    answers-back z =
        through card t p (call c) x r t' p' out' outcome card' n.refusal 0 n.event r.count written (ap (λ (k : Numbers). k.refusal) m)
        (none (λ k. value_of k.answer) z) (ap (λ (k : Numbers). k.event) m) refl

    pub values-back : event_code (step (world_of held t p) c).answer ≡ 0 → (step (world_of held t p) c).count ≡ 0
        → handed n.refusal card' t' p' out' n.value 0 0 ≡ crossed card t p (call c)
    values-back e k =
        through card t p (call c) x r t' p' out' outcome card' n.refusal n.value 0 0 written (ap (λ (k : Numbers). k.refusal) m)
        (ap (λ (k : Numbers). k.value) m) (none (λ k. event_code k.answer) e) (none (λ k. k.count) k)

  -- the card stays
  module _ (y : Bytes card) (g : Readable card) where
    stays : (step (world_of held t p) c).world ≡ world_of held t p → card ≡ card_after card (call c) (after r t' p' out')
    unfolding card_after
    stays z =
        let same : r.card ≡ card_in card = ap (λ (k : Calls.Outcome). card_of k.world) q ∙ ap card_of z ∙ d in
        cond_elim (λ (l : List ℕ). card ≡ l) (eqb (refusal_of r.answer) 0)
        (λ _. sym (card-kept card y g.size t' p' g.flags) ∙ ap (λ (k : Card). card_bytes (world_of k t' p')) (sym same)) (λ _. refl)

    pub reads-back : Reads (world_of held t p) (step (world_of held t p) c) → handed n.refusal card t' p' out' n.value 0 0 ≡ crossed card t p (call c)
    reads-back z =
        through card t p (call c) x r t' p' out' outcome card n.refusal n.value 0 0 (stays z.world) (ap (λ (k : Numbers). k.refusal) m)
        (ap (λ (k : Numbers). k.value) m) (none (λ k. event_code k.answer) z.event) (none (λ k. k.count) z.count)

    pub saves-back : Plain (step (world_of held t p) c) → (step (world_of held t p) c).world ≡ world_of held t p
        → handed n.refusal card t' p' out' 0 0 r.count ≡ crossed card t p (call c)
    saves-back z s =
        through card t p (call c) x r t' p' out' outcome card n.refusal 0 0 r.count (stays s) (ap (λ (k : Numbers). k.refusal) m)
        (none (λ k. value_of k.answer) z.value) (none (λ k. event_code k.answer) z.event) refl

-- ---- a restore, whose card is handed back

pub restore-stops : (card t p image : List ℕ) → (length card ≡ 289 → ⊥) → handed 60 card t p [] 0 0 0 ≡ crossed card t p (restore image)
unfolding unread
restore-stops card t p image h =
    stopped card t p (restore image) 60 (sym (row-refuses 60 _ (ap not (ne_eqb (length card) 289 h)))) (λ z. omega arith)

pub restore-reads : (card image : List ℕ) → length card ≡ 289 → unread card (restore image) ≡ 0
unfolding unread
restore-reads card image h = row-passes 60 _ (ap not (eq-eqb (length card) 289 h)) ∙ no_row

module _ (card t p image : List ℕ) (x : unread card (restore image) ≡ 0) (held : Card) (d : held ≡ card_in card) (r : Outcome) (t' p' : List ℕ)
    (q : after r t' p' [] ≡ restore_of (world_of held t p) image) (n : Numbers) (m : n ≡ numbers_of r.answer) where
  pub restores-back : (card' : List ℕ) → card' ≡ card_over (refusal_of r.answer) card (world_of r.card [] [])
      → handed n.refusal card' t' p' [] 0 0 0 ≡ crossed card t p (restore image)
  unfolding card_after
  restores-back card' w =
      let outcome : after r t' p' [] ≡ restore_of (world_of (card_in card) t p) image = q ∙ ap (λ (k : Card). restore_of (world_of k t p) image) d in
      let z = restore-bare (world_of held t p) image in
      through card t p (restore image) x r t' p' [] outcome card' n.refusal 0 0 0 (w ∙ over_alone (refusal_of r.answer) card r.card t' p')
      (ap (λ (k : Numbers). k.refusal) m) (sym z.plain.value ∙ sym (ap (λ (k : Calls.Outcome). value_of k.answer) q))
      (sym z.plain.event ∙ sym (ap (λ (k : Calls.Outcome). event_code k.answer) q)) (sym z.count ∙ sym (ap (λ (k : Calls.Outcome). k.count) q))
