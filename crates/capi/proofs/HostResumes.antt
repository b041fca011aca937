-- Demand 3, second part, of what a host calls: a restore of a save gives every byte back, whatever was called in between. Assumes nothing.
use mathlib.Core.Path.{◌≡◌, refl, sym, ap, ◌∙◌}
use mathlib.Core.Bool.{true}
use mathlib.Core.List.{List, []}
use Prim.Native.Nat.{ℕ}
use lib.Dec.{eqb}
use lib.ListN.{length, take}
use Rattle.words.specs.Bytes.{Bytes}
use Rattle.words.proofs.BoolLaws.{cond_elim}
use Rattle.model.specs.declared.Answer.TheVariants.{Done}
use Rattle.model.specs.Answers.{refusal_of, is_accepted}
use Rattle.model.specs.World.{World, world_of}
use Rattle.model.specs.Image.{card_bytes, card_in, image_of}
use Rattle.model.specs.Claims.{SameRoom}
use Rattle.model.specs.Calls.{Operation, call, save, restore, accepted, step, restore_of}
use Rattle.model.proofs.CardExact.{card-typed, card-kept}
use Rattle.model.proofs.ImageExact.{restored}
use Rattle.model.proofs.RestoreResumes.{Saved, save_saved}
use Rattle.model.proofs.Calls.AnswerLaws.{numbered, is_done}
use Rattle.model.proofs.Calls.OutcomeLaws.{zero-accepted}
use Rattle.capi.specs.Crossing.{Crossed, handed, card_over, card_after, back, crossed}
use Rattle.capi.specs.Hosts.{Held, held_of, Lent, held_after, crossings}
use Rattle.capi.specs.HostClaims.{left_by, ResumesBytes}
use Rattle.capi.proofs.CardFor.{Readable, read_call}
use Rattle.capi.proofs.CrossingFor.{zero_read, restore-reads, read_through}
use Rattle.capi.proofs.HostFor.{after-lengths}

-- an accepted outcome of a restore, as it crosses
restored_back : (card t p image : List ℕ) → length card ≡ 289 → (v : World) → restore_of (world_of (card_in card) t p) image ≡ accepted v Done [] []
    → crossed card t p (restore image) ≡ handed 0 (card_bytes v) v.endpoint.table v.endpoint.pending [] 0 0 0
unfolding card_after
restored_back card t p image n v e =
    let k = numbered Done 0 0 0 is_done in
    read_through card t p (restore image) (restore-reads card image n) ∙ ap (back card (restore image)) e
    ∙ (λ i. handed (k.0 i) (card_over (k.0 i) card v) v.endpoint.table v.endpoint.pending [] (k.1 i) (k.2 i) 0)

module _ (card t p : List ℕ) (b : Bytes card) (out : List ℕ) (e : (crossed card t p (call (save out))).refusal ≡ 0) where
  abbrev w : World
  w = world_of (card_in card) t p

  abbrev saved : Crossed
  saved = crossed card t p (call (save out))

  read : Readable card
  read = read_call card (save out) (zero_read card t p (call (save out)) e)

  crosses : saved ≡ back card (call (save out)) (step w (save out))
  crosses = read_through card t p (call (save out)) (zero_read card t p (call (save out)) e)

  yes : is_accepted (step w (save out)).answer ≡ true
  yes = zero-accepted w (save out) (sym (ap (λ (x : Crossed). x.refusal) crosses) ∙ e)

  did : Saved w (step w (save out))
  did = save_saved w out yes

  -- the save wrote the image of the card, and left every byte
  wrote : take saved.count saved.output ≡ image_of w
  wrote = ap (λ (x : Crossed). take x.count x.output) crosses ∙ did.image

  same : card_bytes w ≡ card
  same = card-kept card b read.size t p read.flags

  held : left_by saved ≡ held_of card t p
  unfolding card_after
  held =
      ap left_by crosses
      ∙ (λ i. held_of (card_over (refusal_of (step w (save out)).answer) card (did.kept i)) (did.kept i).endpoint.table (did.kept i).endpoint.pending)
      ∙ ap (λ (l : List ℕ). held_of l t p)
      (cond_elim (λ (l : List ℕ). l ≡ card) (eqb (refusal_of (step w (save out)).answer) 0) (λ _. same) (λ _. refl))

  module _ (between : List (Lent Operation)) where
    abbrev h : Held
    h = held_after (left_by saved) between

    room : SameRoom (world_of (card_in h.card) h.table h.pending) w
    room =
        let l = after-lengths (left_by saved) between in
        record {
          table = l.table ∙ ap (λ (k : Held). length k.table) held;
          pending = l.pending ∙ ap (λ (k : Held). length k.pending) held;
        }

    size : length h.card ≡ 289
    size = (after-lengths (left_by saved) between).card ∙ ap (λ (k : Held). length k.card) held ∙ read.size

    is : crossed h.card h.table h.pending (restore (take saved.count saved.output)) ≡ handed 0 card t p [] 0 0 0
    is =
        ap (λ (image : List ℕ). crossed h.card h.table h.pending (restore image)) wrote
        ∙ restored_back h.card h.table h.pending (image_of w) size w
        (restored (world_of (card_in h.card) h.table h.pending) w (card-typed card b read.size t p) did.is_sound room)
        ∙ ap (λ (l : List ℕ). handed 0 l t p [] 0 0 0) same

-- of all bytes that a host can hold
pub host-resumes : (card t p : List ℕ) → Bytes card → ResumesBytes card t p
host-resumes card t p b out e between =
    let k = is card t p b out e between in (
      ap (λ (x : Crossed). x.refusal) k,
      ap left_by k,
      λ rest. ap (λ (x : Crossed). crossings (left_by x) rest) k,
    )
