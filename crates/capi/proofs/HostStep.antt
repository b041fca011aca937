-- One call of a host: refused, it leaves every byte that the host holds; accepted, it was lent the whole of each buffer, and leaves the bytes of the
-- next card, which are read back as that card. Assumes nothing.
use mathlib.Core.Path.{◌≡◌, sym, ap, ◌∙◌}
use mathlib.Core.Bool.{true}
use mathlib.Core.List.{List, [], ◌++◌, append-nil}
use Prim.Native.Nat.{ℕ}
use lib.Dec.{eqb}
use lib.ListN.{length, take, drop, take-append-drop}
use borrow.Author.Tests.{eqb-true, eqb-false}
use Rattle.words.specs.Bytes.{Bytes}
use Rattle.words.proofs.BoolLaws.{by_test}
use Rattle.model.specs.declared.Card.{Card}
use Rattle.model.specs.Answers.{is_accepted}
use Rattle.model.specs.World.{World, world_of}
use Rattle.model.specs.Sound.{sound}
use Rattle.model.specs.Image.{card_bytes, card_in}
use Rattle.model.specs.Claims.{Typed}
use Rattle.model.specs.Calls.{Call, call, step}
use Rattle.model.proofs.CardExact.{card-reads, card-bytes, card-length, card-flags}
use Rattle.model.proofs.RestoreResumes.{room-sound}
use Rattle.model.proofs.Calls.OutcomeLaws.{zero-accepted, accepted-sound}
use Rattle.capi.specs.Crossing.{Crossed, handed, card_after, back}
use Rattle.capi.specs.Hosts.{Held, held_of, Lent, made, left, running}
use Rattle.capi.specs.HostClaims.{left_by}
use Rattle.capi.proofs.CardFor.{Readable, read_call}
use Rattle.capi.proofs.HostFor.{lent_whole}
use Rattle.capi.proofs.CrossingFor.{zero_read, read_through}
use Rattle.capi.proofs.Refused.{refused-call}

-- the card and the buffers in the bytes that a host holds
abbrev pub host_world : Held → World
host_world h = world_of (card_in h.card) h.table h.pending

-- what a host holds of a world
abbrev pub host_bytes : World → Held
host_bytes w = held_of (card_bytes w) w.endpoint.table w.endpoint.pending

-- bytes of a card
pub record IsCard (h : Held) : Type 0 where
  pub bytes : Bytes h.card
  pub read : Readable h.card

-- a call leaves what the host holds, or is accepted on the whole of it and leaves the bytes of the next card
pub data Stepped (h : Held) (x : Lent Call) : Type 0 where
  stays : ((made h (running x)).refusal ≡ 0 → ⊥) → left h (running x) (made h (running x)) ≡ h → Stepped h x
  goes : (made h (running x)).refusal ≡ 0 → is_accepted (step (host_world h) x.calls).answer ≡ true
      → left h (running x) (made h (running x)) ≡ host_bytes (step (host_world h) x.calls).world → Stepped h x

-- every byte that was lent came back
lent_back : (h : Held) (x : Lent Call) (n : ℕ) (out : List ℕ)
    → made h (running x) ≡ handed n (take x.card h.card) (take x.table h.table) (take x.pending h.pending) out 0 0 0
    → left h (running x) (made h (running x)) ≡ h
lent_back h x n out e =
    ap (left h (running x)) e
    ∙ (λ i. held_of (take-append-drop x.card h.card i) (take-append-drop x.table h.table i) (take-append-drop x.pending h.pending i))

module _ (h : Held) (b : IsCard h) (s : sound (host_world h) ≡ true) (x : Lent Call) (e : (made h (running x)).refusal ≡ 0) where
  abbrev card : List ℕ
  card = take x.card h.card

  abbrev t : List ℕ
  t = take x.table h.table

  abbrev p : List ℕ
  p = take x.pending h.pending

  abbrev c : Call
  c = x.calls

  crosses : made h (running x) ≡ back card (call c) (step (world_of (card_in card) t p) c)
  crosses = read_through card t p (call c) (zero_read card t p (call c) e)

  yes : is_accepted (step (world_of (card_in card) t p) c).answer ≡ true
  yes = zero-accepted (world_of (card_in card) t p) c (sym (ap (λ (r : Crossed). r.refusal) crosses) ∙ e)

  -- the whole of each buffer was lent
  whole_card : (card ≡ h.card) × (drop x.card h.card ≡ [])
  whole_card = lent_whole x.card h.card ((read_call card c (zero_read card t p (call c) e)).size ∙ sym b.read.size)

  room : (length t ≡ length h.table) × (length p ≡ length h.pending)
  room =
      let same = ap (λ (l : List ℕ). (card_in l).function.config) whole_card.0 in
      let r = room-sound (world_of (card_in card) t p) (host_world h) (accepted-sound (world_of (card_in card) t p) c yes) s same in
      (r.table, r.pending)

  whole_table : (t ≡ h.table) × (drop x.table h.table ≡ [])
  whole_table = lent_whole x.table h.table room.0

  whole_pending : (p ≡ h.pending) × (drop x.pending h.pending ≡ [])
  whole_pending = lent_whole x.pending h.pending room.1

  same-world : world_of (card_in card) t p ≡ host_world h
  same-world = λ i. world_of (card_in (whole_card.0 i)) (whole_table.0 i) (whole_pending.0 i)

  now_accepted : is_accepted (step (host_world h) c).answer ≡ true
  now_accepted = ap (λ (w : World). is_accepted (step w c).answer) (sym same-world) ∙ yes

  leaves : left h (running x) (made h (running x)) ≡ host_bytes (step (host_world h) c).world
  unfolding card_after
  leaves =
      (λ i. held_of ((made h (running x)).card ++ whole_card.1 i) ((made h (running x)).table ++ whole_table.1 i) ((made h (running x)).pending ++ whole_pending.1 i))
      ∙ (λ i. held_of (append-nil (made h (running x)).card i) (append-nil (made h (running x)).table i) (append-nil (made h (running x)).pending i))
      ∙ ap left_by crosses
      ∙ rw (sym (ap (λ (r : Crossed). r.refusal) crosses) ∙ e) (ap (λ (w : World). host_bytes (step w c).world) same-world)

pub stepped : (h : Held) → IsCard h → sound (host_world h) ≡ true → (x : Lent Call) → Stepped h x
stepped h b s x =
    by_test (eqb (made h (running x)).refusal 0)
    (λ z. let e = eqb-true (made h (running x)).refusal 0 z in goes e (now_accepted h b s x e) (leaves h b s x e))
    (λ z.
    let e = eqb-false (made h (running x)).refusal 0 z in
    stays e (lent_back h x _ _ (refused-call (take x.card h.card) (take x.table h.table) (take x.pending h.pending) x.calls e)))

-- ---- the bytes of a card that its types can hold

-- a typed world's bytes are a card's, and hold that world
pub card-of : (w : World) → Typed w → IsCard (host_bytes w)
card-of w t = record { bytes = card-bytes w t; read = record { size = card-length w t; flags = card-flags w t } }

pub back_of : (w : World) → Typed w → host_world (host_bytes w) ≡ w
back_of w t = ap (λ (c : Card). world_of c w.endpoint.table w.endpoint.pending) (card-reads w t)
