-- Demand 2, images: given buffers that fit, restore accepts an image exactly if saving some sound card writes it, and gives that card back.
-- Assumes nothing.
use mathlib.Core.Path.{◌≡◌, refl, sym, ap, ◌∙◌}
use mathlib.Core.Bool.{true, not, false≢true}
use mathlib.Core.List.{List, []}
use Prim.Native.Nat.{ℕ, zero, suc, ◌^◌, ◌≤◌}
use native.Mathlib.Omega.{arith}
use lib.Dec.{ltb, eqb}
use lib.ListN.{length, take, drop}
use borrow.Author.Tests.{eq-eqb, le-ltb, ltb-false, not-false}
use Rattle.words.specs.Lists.{same, first_of}
use Rattle.words.specs.Bytes.{byte, number, word16, word32, words32, bytes_of, Below, empty, more, Bytes}
use Rattle.words.proofs.BoolLaws.{both, neither, passed}
use Rattle.words.proofs.ListLaws.{same_true, same_refl}
use Rattle.words.proofs.ByteLaws.{number_lt, drop-bytes, length_part}
use Rattle.words.proofs.BytesLaws.{bytes-part}
use Rattle.model.specs.declared.Answer.TheVariants.{Done}
use Rattle.model.specs.Answers.{is_accepted, refusal_of}
use Rattle.model.specs.Shape.{table_bytes}
use Rattle.model.specs.World.{World}
use Rattle.model.specs.Sound.{sound, shape, given_of}
use Rattle.model.specs.Image.{mark, image_of, function_from, world_in, is_saved, restore_refusal}
use Rattle.model.specs.Calls.{Outcome, accepted, restore_of}
use Rattle.model.proofs.Sound.SoundLaws.{accepts, buffers_fit, is-sound}
use Rattle.model.specs.Claims.{Typed, SavedBy, SameRoom, AcceptedIfSaved}
use Rattle.model.proofs.Image.ImageLaws.{image_reads, image-length}
use Rattle.model.proofs.Calls.CallLaws.{answered_elim, answered_yes}
use Rattle.model.proofs.Calls.SizeLaws.{Sized}
use Rattle.model.proofs.Refusals.{restore-number}

-- ---- a sound card's image is accepted, and gives the card back

sound-table : (v : World) → sound v ≡ true → length v.endpoint.table ≡ table_bytes (shape v.endpoint)
sound-table v s =
    (buffers_fit (shape v.endpoint) (length v.endpoint.table) (length v.endpoint.pending) (accepts (given_of v.endpoint) (is-sound v s).endpoint.start).buffers).0

pub reads-back : (v : World) → Typed v → sound v ≡ true → world_in (image_of v) ≡ v
reads-back v t s = image_reads v t (sound-table v s)

marked : (v : World) → same (take 3 (image_of v)) mark ≡ true
unfolding image_of mark same
marked v = refl

version_one : (v : World) → eqb (word16 (image_of v) 3) 1 ≡ true
unfolding image_of mark bytes_of word16 number
version_one v = refl

no_refusal : (w v : World) → Typed v → sound v ≡ true → SameRoom w v → restore_refusal (image_of v) (length w.endpoint.table) (length w.endpoint.pending) ≡ 0
unfolding restore_refusal is_saved first_of
no_refusal w v t s f =
    rw (
      le-ltb (length (image_of v)) 294 (omega (arith, image-length v t (sound-table v s))),
      marked v,
      version_one v,
      reads-back v t s,
      s,
      same_refl (image_of v),
      eq-eqb (length w.endpoint.table) (length v.endpoint.table) f.table,
      eq-eqb (length w.endpoint.pending) (length v.endpoint.pending) f.pending,
    )

pub restored : (w v : World) → Typed v → sound v ≡ true → SameRoom w v → restore_of w (image_of v) ≡ accepted v Done [] []
unfolding restore_of
restored w v t s f =
    answered_yes (restore_refusal (image_of v) (length w.endpoint.table) (length w.endpoint.pending)) _ _ (no_refusal w v t s f)
    ∙ ap (λ (x : World). accepted x Done [] []) (reads-back v t s)

gives_back : (w : World) (image : List ℕ) (v : World) → SavedBy image v → SameRoom w (world_in image) → restore_of w image ≡ accepted v Done [] []
gives_back w image v k f = ap (restore_of w) (sym k.bytes) ∙ restored w v k.typed k.is_sound room
  where
    held : world_in image ≡ v
    held = ap world_in (sym k.bytes) ∙ reads-back v k.typed k.is_sound

    room : SameRoom w v
    room = rw held at f

-- ---- an accepted image is one that its card saves

pub words-below : (n : ℕ) (l : List ℕ) → Bytes l → Below (256 ^ 4) (words32 n l)
unfolding words32 word32
words-below zero l h = empty
words-below (suc n) l h = more (number_lt (byte l) 0 4 h) (words-below n (drop 4 l) (drop-bytes 4 l h))

pub length-words : (n : ℕ) (l : List ℕ) → length (words32 n l) ≡ n
unfolding words32
length-words zero l = refl
length-words (suc n) l = ap suc (length-words n (drop 4 l))

-- what an image of at least 294 bytes holds has arrays of the declared lengths
held_sized : (image : List ℕ) → 294 ≤ length image → Sized (world_in image).endpoint
unfolding world_in function_from
held_sized image h = record { config = length_part image 38 256 (omega arith); sizes = length-words 6 (drop 14 image) }

-- and the declared types
held-typed : (image : List ℕ) → Bytes image → 294 ≤ length image → Typed (world_in image)
unfolding world_in function_from word16 word32
held-typed image b h = record {
  arrays =
      record {
        config = (held_sized image h).config;
        bytes = bytes-part 38 256 image b;
        sizes = (held_sized image h).sizes;
        small = words-below 6 (drop 14 image) (drop-bytes 14 image b);
      };
  events = number_lt (byte image) 6 2 b;
  requester = number_lt (byte image) 8 2 b;
  waiting = number_lt (byte image) 10 4 b;
}

pub held_saved : (image : List ℕ) → Bytes image → 294 ≤ length image → is_saved image ≡ true → SavedBy image (world_in image)
unfolding is_saved
held_saved image b long e =
    let s = both (sound (world_in image)) (same (image_of (world_in image)) image) e in
    record { typed = held-typed image b long; is_sound = s.0; bytes = same_true (image_of (world_in image)) image s.1 }

-- row 20 passed
long_enough : (image : List ℕ) (t p : ℕ) → restore_refusal image t p ≡ 0 → 294 ≤ length image
unfolding restore_refusal
long_enough image t p e =
    ltb-false (length image) 294 (neither (ltb (length image) 294) (not (same (take 3 image) mark)) (passed 20 _ refl e).0).0

pub restored_sized : (w : World) (image : List ℕ) → refusal_of (restore_of w image).answer ≡ 0 → Sized (restore_of w image).world.endpoint
unfolding restore_of
restored_sized w image e =
    let t : ℕ = length w.endpoint.table in
    let p : ℕ = length w.endpoint.pending in
    let z = sym (restore-number w image) ∙ e in
    rw (answered_yes (restore_refusal image t p) _ _ z) (held_sized image (long_enough image t p z))

saved_by : (image : List ℕ) (t p : ℕ) → Bytes image → restore_refusal image t p ≡ 0 → SavedBy image (world_in image)
unfolding restore_refusal
saved_by image t p b e =
    let r20 = passed 20 _ refl e in
    let r21 = passed 21 _ refl r20.1 in
    let r22 = passed 22 _ refl r21.1 in
    held_saved image b (long_enough image t p e) (not-false (is_saved image) r22.0)

-- the card of an accepted image has the declared types
pub restored_typed : (image : List ℕ) (t p : ℕ) → Bytes image → restore_refusal image t p ≡ 0 → Typed (world_in image)
restored_typed image t p b e = (saved_by image t p b e).typed

pub image_saved : (w : World) (image : List ℕ) → Bytes image → is_accepted (restore_of w image).answer ≡ true → SavedBy image (restore_of w image).world
unfolding restore_of is_accepted
image_saved w image b =
    answered_elim (restore_refusal image (length w.endpoint.table) (length w.endpoint.pending)) _ _
    (λ (r : Outcome). is_accepted r.answer ≡ true → SavedBy image r.world)
    (λ e _. saved_by image (length w.endpoint.table) (length w.endpoint.pending) b e) (λ _ e. absurd (false≢true e))

-- ---- the theorem

pub image-exact : (w : World) (image : List ℕ) → Bytes image → AcceptedIfSaved w image
unfolding is_accepted
image-exact w image b f = (
  λ e. ((restore_of w image).world, image_saved w image b e),
  λ p. ap (λ (r : Outcome). is_accepted r.answer) (gives_back w image p.0 p.1 f),
)

-- and then it gives that card, its table and its pending array back
pub image_gives : (w : World) (image : List ℕ) (v : World) → SavedBy image v → SameRoom w (world_in image) → (restore_of w image).world ≡ v
image_gives w image v k f = ap (λ (r : Outcome). r.world) (gives_back w image v k f)
