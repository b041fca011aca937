-- What bytes that were sent say of an upstream pin: packets one after another, the changes of the upstream wires, a message write in front of them.
-- Assumes nothing.
use mathlib.Core.Path.{◌≡◌, refl, sym, ap, ◌∙◌}
use mathlib.Core.Bool.{Bool, true, false, cond, not, ◌&&◌, beq, and-false}
use mathlib.Core.List.{List, [], ◌∷◌, ◌++◌}
use Prim.Native.Nat.{ℕ, zero, suc, ◌+◌, ◌≤◌, ◌<◌}
use native.Mathlib.Omega.{arith}
use lib.Dec.{eqb}
use lib.ListN.{length, length-append}
use lib.Seq.{take_at, drop_at}
use borrow.Author.Tests.{eqb-true, eqb-false, eq-eqb, ne_eqb}
use Rattle.words.specs.Lists.{count, member, join}
use Rattle.words.proofs.BoolLaws.{by_test, cond_elim, cond-not, cond_same}
use Rattle.words.proofs.ListLaws.{Holds, holds_head, holds_tail, member-count, count-member}
use Rattle.model.specs.Packets.{message_size, wire_message}
use Rattle.model.proofs.Vectors.PacketLaws.{message-length, wire-length}
use Rattle.std.specs.Prelude.{Option, Some, None}
use Rattle.tlp.specs.declared.decode.Packet.{Packet}
use Rattle.tlp.specs.declared.decode.Packet.TheVariants.{Message, Wire}
use Rattle.tlp.specs.Decoded.{decoded, first_length}
use Rattle.tlp.proofs.RoundTrip.{wire_decodes, decoded-message, first-wire, first-message}
use Rattle.switch.specs.Calls.{own_requester, change_of, changes, forwarded}
use Rattle.switch.specs.History.{is_for, is_assert, packets_in, level_after}
use Rattle.switch.proofs.ChangeLaws.{no_change, change_packet}

-- the packets of l, however many are asked for at most, take the level of pin q from b to f b
abbrev pub Says : (q : ℕ) → List ℕ → (f : Bool → Bool) → Type 0
Says q l f = (n : ℕ) → length l ≤ n → (b : Bool) → level_after q (packets_in n l) b ≡ f b

pub says_nothing : (q : ℕ) → Says q [] (λ b. b)
unfolding packets_in level_after
says_nothing q zero h b = refl
says_nothing q (suc n) h b = refl

-- a packet p, and what stands behind it
module _ (p rest : List ℕ) (x : Option Packet) (nonempty : 1 ≤ length p) (whole : first_length (p ++ rest) ≡ length p) (is : decoded p ≡ x) where
  packets-first : (n : ℕ) → packets_in (suc n) (p ++ rest) ≡ x ∷ packets_in n rest
  unfolding packets_in
  packets-first n =
      let k : length (p ++ rest) ≡ 0 → ⊥ = λ z. omega (arith, length-append p rest) in
      rw (ne_eqb (length (p ++ rest)) 0 k, whole, take_at p rest (length p) refl, drop_at p rest (length p) refl, is)

  pub says_packet : (q : ℕ) (f : Bool → Bool) → Says q rest f → Says q (p ++ rest) (λ b. f (cond (is_for q x) (is_assert x) b))
  unfolding level_after
  says_packet q f says zero h b = absurd (omega (arith, length-append p rest))
  says_packet q f says (suc n) h b = rw (packets-first n) (says n (omega (arith, length-append p rest)) _)

-- ---- the changes of the upstream wires

abbrev is_pin : ℕ → Type 0
is_pin x = (1 ≤ x) × (x < 1 + 4)

module _ (requester : ℕ) (before after : ℕ → Bool) (q : ℕ) where
  -- a pin of the list that changed has its level after
  abbrev told : List ℕ → Bool → Bool
  told l b = cond (member q l && not (beq (before q) (after q))) (after q) b

  -- another pin says nothing of q
  told_other : (x : ℕ) (l : List ℕ) (b : Bool) → eqb x q ≡ false → told l b ≡ told (x ∷ l) b
  unfolding member
  told_other x l b t = rw (ne_eqb q x (λ z. eqb-false x q t (sym z)))

  -- a pin that changed sends its packet
  told_change : (x : ℕ) (l : List ℕ) (b : Bool) → beq (before x) (after x) ≡ false → told l (cond (eqb x q) (after x) b) ≡ told (x ∷ l) b
  unfolding member
  told_change x l b e =
      by_test (eqb x q)
      (λ t.
      let z : x ≡ q = eqb-true x q t in
      let c : beq (before q) (after q) ≡ false = rw z at e in
      rw (z, c, eq-eqb q q refl) (cond_same (member q l && true) (after q)))
      (λ t. rw t (told_other x l b t))

  -- one that did not sends nothing
  told_same : (x : ℕ) (l : List ℕ) (b : Bool) → beq (before x) (after x) ≡ true → told l b ≡ told (x ∷ l) b
  unfolding member
  told_same x l b e =
      by_test (eqb x q)
      (λ t. let z : x ≡ q = eqb-true x q t in let c : beq (before q) (after q) ≡ true = rw z at e in rw (c, and-false (member q l), and-false (member q (x ∷ l))))
      (told_other x l b)

  says-pin : (x : ℕ) (l : List ℕ) → is_pin x → Says q (join (change_of requester before after) l) (told l)
      → Says q (join (change_of requester before after) (x ∷ l)) (told (x ∷ l))
  unfolding join is_for is_assert
  says-pin x l h tail =
      by_test (beq (before x) (after x)) (λ e. rw (no_change requester before after x e) (λ n m b. tail n m b ∙ told_same x l b e))
      (λ e. rw (change_packet requester before after x e) (λ n m b. says_packet bytes rest _ (omega (arith, size)) (first-wire _ x (after x) rest ∙ sym size)
      (wire_decodes _ x (after x) h.0 (omega (arith, h.1))) q (told l) tail n m b ∙ told_change x l b e))
    where
      bytes : List ℕ
      bytes = wire_message (own_requester requester) x (after x)

      rest : List ℕ
      rest = join (change_of requester before after) l

      size : length bytes ≡ 16
      size = wire-length (own_requester requester) x (after x)

  says_pins : (l : List ℕ) → Holds is_pin l → Says q (join (change_of requester before after) l) (told l)
  unfolding join member
  says_pins [] h = says_nothing q
  says_pins (x ∷ l) h = says-pin x l (holds_head is_pin x l h) (says_pins l (holds_tail is_pin x l h))

  -- the changes of the upstream wires take the level of each upstream pin from before to after
  pub says-changes : 1 ≤ q → q ≤ 4 → Says q (changes requester before after) (λ b. cond (beq (before q) (after q)) b (after q))
  unfolding changes
  says-changes first last n m b =
      says_pins (count 1 4) (member-count 1 4) n m b ∙ rw (count-member 1 4 q first (omega arith)) (cond-not (beq (before q) (after q)) (after q) b)

-- ---- a message write that passes

size_nonzero : (upper : ℕ) → 1 ≤ message_size upper
unfolding message_size
size_nonzero upper = cond_elim (λ (n : ℕ). 1 ≤ n) (eqb upper 0) (λ _. omega arith) (λ _. omega arith)

-- the bytes that a call forwards, a message write's or none, say nothing of any pin
pub says-forwarded : (q : ℕ) (bytes rest : List ℕ) (f : Bool → Bool) → Says q rest f → Says q (forwarded (decoded bytes) bytes ++ rest) f
unfolding forwarded is_for
says-forwarded q bytes rest f says = go (decoded bytes) refl
  where
    go : (x : Option Packet) → decoded bytes ≡ x → Says q (forwarded x bytes ++ rest) f
    go (Some (Message m)) e =
        let b = (decoded-message bytes m e).bytes in
        let size : length bytes ≡ message_size m.upper = ap length b ∙ message-length m.requester m.upper m.address m.value in
        let whole : first_length (bytes ++ rest) ≡ message_size m.upper =
        ap (λ (l : List ℕ). first_length (l ++ rest)) b ∙ first-message m.requester m.upper m.address m.value rest in
        says_packet bytes rest (Some (Message m)) (omega (arith, size, size_nonzero m.upper)) (whole ∙ sym size) e q f says
    go (Some (Wire w)) e = says
    go None e = says
