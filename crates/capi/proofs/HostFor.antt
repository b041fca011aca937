-- Buffers that are lent in part: what was not lent stays, and every function keeps the length of what it was lent. Assumes nothing.
use mathlib.Core.Path.{◌≡◌, refl, sym, ap, ◌∙◌}
use mathlib.Core.List.{List, [], ◌∷◌, ◌++◌}
use Prim.Native.Nat.{ℕ, ◌+◌, ◌≤◌}
use native.Mathlib.Nat.{min-le_left}
use native.Mathlib.Omega.{arith}
use lib.Dec.{eqb}
use lib.ListN.{length, take, drop, length-take, length-append, take-append-drop, drop_of_length-le}
use lib.Seq.{take_all}
use borrow.Author.Tests.{eqb-true, eqb-false}
use Rattle.words.proofs.BoolLaws.{by_test, cond_elim}
use Rattle.model.specs.Answers.{refusal_of}
use Rattle.model.specs.World.{World, world_of}
use Rattle.model.specs.Image.{card_in}
use Rattle.model.specs.Calls.{Operation, call, start, restore, restore_of, operate}
use Rattle.model.proofs.CardExact.{card_sized, sized_length}
use Rattle.model.proofs.ImageExact.{restored_sized}
use Rattle.model.proofs.RestoreResumes.{room-operate}
use Rattle.model.proofs.Calls.SizeLaws.{sized_step, sized_start}
use Rattle.capi.specs.Crossing.{Crossed, unread, card_after, crossed}
use Rattle.capi.specs.Hosts.{Held, Lent, made, left, held_after, RightLengths}
use Rattle.capi.proofs.CardFor.{read_lengths}
use Rattle.capi.proofs.CrossingFor.{stopped, read_through}

-- ---- what is lent of a list

-- as long as the whole: it is the whole, and nothing is left over
pub lent_whole : (n : ℕ) (l : List ℕ) → length (take n l) ≡ length l → (take n l ≡ l) × (drop n l ≡ [])
lent_whole n l e =
    let h : length l ≤ n = omega (arith, min-le_left n (length l), length-take n l) in
    (take_all n l h, drop_of_length-le l h)

kept-length : (n : ℕ) (l r : List ℕ) → length r ≡ length (take n l) → length (r ++ drop n l) ≡ length l
kept-length n l r e = length-append r (drop n l) ∙ ap (λ (k : ℕ). k + length (drop n l)) e ∙ sym (length-append (take n l) (drop n l)) ∙ ap length (take-append-drop n l)

-- ---- what each function hands back has the lengths that it was given

-- the card's bytes after an operation on the card that they hold
after-size : (card t p : List ℕ) (o : Operation) → RightLengths card o → length (card_after card o (operate (world_of (card_in card) t p) o)) ≡ 289
unfolding card_after
after-size card t p (call c) n =
    cond_elim (λ (l : List ℕ). length l ≡ 289) (eqb (refusal_of (operate (world_of (card_in card) t p) (call c)).answer) 0)
    (λ _. sized_length _ (sized_step (world_of (card_in card) t p) c (card_sized card n t p))) (λ _. n)
after-size card t p (start config sizes events requester) (n, c, z) = sized_length _ (sized_start _ _ c z)
after-size card t p (restore image) n =
    let w : World = world_of (card_in card) t p in
    let number : ℕ = refusal_of (restore_of w image).answer in
    cond_elim (λ (l : List ℕ). length l ≡ 289) (eqb number 0) (λ z. sized_length _ (restored_sized w image (eqb-true number 0 z))) (λ _. n)

same-lengths : (card : List ℕ) (o : Operation) → RightLengths card o → length card ≡ 289
same-lengths card (call c) n = n
same-lengths card (start config sizes events requester) n = n.0
same-lengths card (restore image) n = n

-- the lengths of the three buffers are kept
record Kept (c t p : List ℕ) (r : Crossed) : Type 0 where
  card : length r.card ≡ length c
  table : length r.table ≡ length t
  pending : length r.pending ≡ length p

kept : (card t p : List ℕ) (o : Operation) → Kept card t p (crossed card t p o)
kept card t p o =
    by_test (eqb (unread card o) 0)
    (λ z.
    let x = eqb-true (unread card o) 0 z in
    let n = read_lengths card o x in
    let room = room-operate (world_of (card_in card) t p) o in
    rw (read_through card t p o x)
    (record { card = after-size card t p o n ∙ sym (same-lengths card o n); table = room.table; pending = room.pending }))
    (λ z.
    rw (sym (stopped card t p o (unread card o) refl (eqb-false (unread card o) 0 z)))
    (record { card = refl; table = refl; pending = refl }))

-- ---- lists of calls

-- two hosts hold as many bytes of each
pub record SameLengths (h k : Held) : Type 0 where
  pub card : length h.card ≡ length k.card
  pub table : length h.table ≡ length k.table
  pub pending : length h.pending ≡ length k.pending

left-lengths : (h : Held) (x : Lent Operation) → SameLengths (left h x (made h x)) h
left-lengths h x =
    let k = kept (take x.card h.card) (take x.table h.table) (take x.pending h.pending) x.calls in
    record {
      card = kept-length x.card h.card (made h x).card k.card;
      table = kept-length x.table h.table (made h x).table k.table;
      pending = kept-length x.pending h.pending (made h x).pending k.pending;
    }

pub after-lengths : (h : Held) (l : List (Lent Operation)) → SameLengths (held_after h l) h
unfolding held_after
after-lengths h [] = record { card = refl; table = refl; pending = refl }
after-lengths h (x ∷ l) =
    let a = after-lengths (left h x (made h x)) l in
    let b = left-lengths h x in
    record { card = a.card ∙ b.card; table = a.table ∙ b.table; pending = a.pending ∙ b.pending }
