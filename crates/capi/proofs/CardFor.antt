-- A card's bytes: what refuses them before they are read, and what they have otherwise. Assumes nothing.
use mathlib.Core.Path.{◌≡◌, refl, sym, ap, ◌∙◌}
use mathlib.Core.Bool.{Bool, true, false, not}
use mathlib.Core.List.{List, [], ◌∷◌}
use Prim.Native.Nat.{ℕ, ◌^◌, ◌≤◌, ◌<◌}
use native.Mathlib.Omega.{arith}
use lib.Dec.{ltb, eqb}
use lib.ListN.{length}
use borrow.Author.Tests.{eq-eqb, ne_eqb, eqb-true, ltb-true, not-false}
use Rattle.words.specs.Lists.{first_of}
use Rattle.words.specs.Bytes.{byte, Below, Bytes}
use Rattle.words.specs.Writers.{Wrote}
use Rattle.words.proofs.BoolLaws.{passed, row-passes, row-refuses, no_row}
use Rattle.words.proofs.PutLaws.{over-all}
use Rattle.model.specs.declared.Answer.{Answer}
use Rattle.model.specs.declared.Card.{Card}
use Rattle.model.specs.Answers.{refusal_of}
use Rattle.model.specs.World.{world_of}
use Rattle.model.specs.Image.{card_bytes, card_in}
use Rattle.model.specs.Calls.{Call, Operation, call, start, restore, reset}
use Rattle.model.proofs.CardExact.{card-typed}
use Rattle.image.proofs.CardLaws.{card-length}
use Rattle.capi.specs.declared.bytes.Numbers.{Numbers}
use Rattle.capi.specs.Numbers.{numbers_of}
use Rattle.capi.specs.Crossing.{unread, card_over}
use Rattle.capi.specs.Hosts.{RightLengths}

-- ---- the tests of a call of a running card

pub wrong_length : (l : List ℕ) → (length l ≡ 289 → ⊥) → (c : Call) → 60 ≡ unread l (call c)
unfolding unread
wrong_length l h c = sym (row-refuses 60 _ (ap not (ne_eqb (length l) 289 h)))

-- b is the code's test of the flags
module _ (l : List ℕ) (h : length l ≡ 289) (b : Bool) (e : b ≡ ltb (byte l 0) 4) where
  by_flags : (c : Call) → unread l (call c) ≡ first_of ((1, not b) ∷ [])
  unfolding unread
  by_flags c = row-passes 60 _ (ap not (eq-eqb (length l) 289 h)) ∙ ap (λ (t : Bool). first_of ((1, not t) ∷ [])) (sym e)

  pub other_flags : not b ≡ true → (c : Call) → 1 ≡ unread l (call c)
  other_flags t c = sym (by_flags c ∙ row-refuses 1 [] t)

  pub no_other_flags : not b ≡ false → (c : Call) → 0 ≡ unread l (call c)
  no_other_flags t c = sym (by_flags c ∙ row-passes 1 [] t ∙ no_row)

-- the bytes of a card that is read
pub record Readable (l : List ℕ) : Type 0 where
  pub size : length l ≡ 289
  pub flags : byte l 0 < 4

pub card-room : {l : List ℕ} → Readable l → 289 ≤ length l
card-room g = omega (arith, g.size)

is-length : (l : List ℕ) (n : ℕ) → not (eqb (length l) n) ≡ false → length l ≡ n
is-length l n e = eqb-true (length l) n (not-false (eqb (length l) n) e)

pub read_call : (l : List ℕ) (c : Call) → unread l (call c) ≡ 0 → Readable l
unfolding unread
read_call l c e =
    let a = passed 60 _ refl e in
    let b = passed 1 [] refl a.1 in
    record { size = is-length l 289 a.0; flags = ltb-true (byte l 0) 4 (not-false (ltb (byte l 0) 4) b.0) }

-- where the code's test passes
pub is-readable : (l : List ℕ) → ((c : Call) → 0 ≡ unread l (call c)) → Readable l
is-readable l e = read_call l (reset []) (sym (e (reset [])))

-- of every operation
pub read_lengths : (l : List ℕ) (o : Operation) → unread l o ≡ 0 → RightLengths l o
unfolding unread
read_lengths l (call c) e = is-length l 289 (passed 60 _ refl e).0
read_lengths l (start config sizes events requester) e =
    let a = passed 60 _ refl e in
    let b = passed 60 _ refl a.1 in
    let c = passed 60 _ refl b.1 in
    (is-length l 289 a.0, is-length config 256 b.0, is-length sizes 6 c.0)
read_lengths l (restore image) e = is-length l 289 (passed 60 _ refl e).0

-- ---- the card

-- its sizes have 32 bits
pub sizes-small : (l : List ℕ) → Bytes l → length l ≡ 289 → (held : Card) → held ≡ card_in l → Below (256 ^ 4) held.function.sizes
sizes-small l b n held d = rw d (card-typed l b n [] []).arrays.small

-- a card written over the bytes of another
pub card-written : (card : Card) (l l' : List ℕ) (n : ℕ) → length card.function.sizes ≡ 6 → length card.function.config ≡ 256
    → length l ≡ 289 → Wrote (card_bytes (world_of card [] [])) l n l' → l' ≡ card_bytes (world_of card [] [])
card-written card l l' n z c h w = w.bytes ∙ over-all (card_bytes (world_of card [] [])) l (omega (arith, card-length card [] [] z c))

-- the bytes after an outcome with this answer and card; n are the code's numbers of the answer
pub over-refused : (n : Numbers) (answer : Answer) (l : List ℕ) (card : Card) → n ≡ numbers_of answer → (n.refusal ≡ 0 → ⊥)
    → l ≡ card_over (refusal_of answer) l (world_of card [] [])
over-refused n answer l card m h = rw (ne_eqb (refusal_of answer) 0 (λ z. h (ap (λ (k : Numbers). k.refusal) m ∙ z)))

pub over-accepted : (n : Numbers) (answer : Answer) (l : List ℕ) (card : Card) → n ≡ numbers_of answer → n.refusal ≡ 0
    → {l' : List ℕ} → l' ≡ card_bytes (world_of card [] []) → l' ≡ card_over (refusal_of answer) l (world_of card [] [])
over-accepted n answer l card m h w = w ∙ rw (eq-eqb (refusal_of answer) 0 (sym (ap (λ (k : Numbers). k.refusal) m) ∙ h))
