-- The card that an image holds, and each way out of a restore. Assumes nothing.
use mathlib.Core.Path.{◌≡◌, refl, sym, ap, ap₂, ◌∙◌}
use mathlib.Core.Bool.{Bool, true, false, not, and-true, and-false}
use mathlib.Core.List.{List, []}
use Prim.Native.Nat.{ℕ, ◌+◌, ◌-◌, ◌≤◌, ◌<◌}
use native.Mathlib.Omega.{arith}
use lib.Dec.{ltb, eqb}
use lib.ListN.{length, take, drop, length-drop}
use lib.Seq.{take_all, drop-drop}
use borrow.Author.Tests.{not-true, not-false}
use Rattle.words.specs.Lists.{same}
use Rattle.words.specs.Bits.{bit}
use Rattle.words.specs.Bytes.{byte, word16, Bytes}
use Rattle.words.proofs.BoolLaws.{by_test}
use Rattle.model.specs.declared.Answer.TheVariants.{Done}
use Rattle.model.specs.declared.Card.{Card}
use Rattle.model.specs.declared.Function.{Function}
use Rattle.model.specs.Shape.{shape_of, table_bytes}
use Rattle.model.specs.World.{World, world_of, card_of}
use Rattle.model.specs.Sound.{sound}
use Rattle.model.specs.Image.{mark, function_in, world_in, is_saved, restore_refusal}
use Rattle.model.specs.Calls.{accepted, restore_of}
use Rattle.model.proofs.Shapes.FitLaws.{sound_fit}
use Rattle.model.proofs.Calls.RestoreCalls as RestoreCalls
use Rattle.model.proofs.Calls.RestoreCalls.{IsImage, saved_is, buffers_held, held-lengths, none-refuses}
use Rattle.image.specs.Layout.{image_size}
use Rattle.card.specs.declared.outcome.Outcome.{Outcome}
use Rattle.card.specs.Outcomes.{refused_with, accepted_with, after}
use Rattle.snapshot.specs.Reads.{Saved}

-- ---- what an image holds

pub card-held : (l : List ℕ) (f : Function) (wire : Bool) → f ≡ function_in l → wire ≡ bit (byte l 5) 1 → ◌≡◌ {A = Card} (record { function = f; wire = wire }) (card_of (world_in l))
card-held l f wire e d = rw (e, d) (sym (RestoreCalls.card-held l))

-- its card, and the length of its table
module _ (l : List ℕ) (card : Card) (n : ℕ) (e : card ≡ card_of (world_in l)) (k : n ≡ table_bytes (shape_of card.function.config)) where
  size : n ≡ table_bytes (shape_of (world_in l).endpoint.function.config)
  size = k ∙ ap (λ (c : Card). table_bytes (shape_of c.function.config)) e

  held : world_of card (take n (drop 294 l)) (drop n (drop 294 l)) ≡ world_in l
  held = ap (λ (c : Card). world_of c (take n (drop 294 l)) (drop n (drop 294 l))) e ∙ buffers_held l n size

  -- of a sound card the image has the whole table, and the pending array behind it
  module _ (long : 294 ≤ length l) (s : sound (world_in l) ≡ true) where
    table_is : length (world_in l).endpoint.table ≡ n
    table_is = (sound_fit (world_in l) s).table ∙ sym size

    whole : 294 + n ≤ length l
    whole = omega (arith, held-lengths l long, table_is)

    pending-is : length (world_in l).endpoint.pending ≡ length l - 294 - n
    pending-is = omega (arith, held-lengths l long, table_is)

-- the two parts of an image that are lent as table and pending array
parts : (l : List ℕ) (card : Card) (n : ℕ) → 294 + n ≤ length l
    → world_of card (take (294 + n - 294) (drop 294 l)) (take (length l - (294 + n)) (drop (294 + n) l)) ≡ world_of card (take n (drop 294 l)) (drop n (drop 294 l))
parts l card n h =
    let a : 294 + n - 294 ≡ n = omega arith in
    let d : length (drop (294 + n) l) ≤ length l - (294 + n) = rw length-drop (omega arith) in
    ap₂ (world_of card) (ap (λ (m : ℕ). take m (drop 294 l)) a) (take_all (length l - (294 + n)) (drop (294 + n) l) d ∙ sym (drop-drop n 294 l))

-- ---- whether a sound card saves an image with the mark and version 1

module _ (l : List ℕ) (b : Bytes l) (long : 294 ≤ length l) (m : same (take 3 l) mark ≡ true) (v : word16 l 3 ≡ 1) where
  abbrev image : IsImage l
  image = record { long = long; marked = m; version = v }

  module _ (f : Bool) (q : f ≡ ltb (byte l 5) 4) where
    pub wrong-flags : not f ≡ true → false ≡ is_saved l
    wrong-flags h = sym (saved_is l b image ∙ rw (← q, not-true f h, and-false (sound (world_in l))))

    module _ (h : not f ≡ false) (card : Card) (n : ℕ) (e : card ≡ card_of (world_in l)) (k : n ≡ table_bytes (shape_of card.function.config)) where
      saved_sound : sound (world_in l) ≡ is_saved l
      saved_sound = sym (saved_is l b image ∙ rw (← q, not-false f h, and-true (sound (world_in l))))

      pub too_short : length l < 294 + n → false ≡ is_saved l
      too_short d = by_test (sound (world_in l)) (λ s. absurd (omega (arith, whole l card n e k long s))) (λ s. sym s ∙ saved_sound)

      pub by-check : (r : Bool) → 294 + n ≤ length l → r ≡ sound (world_of card (take (294 + n - 294) (drop 294 l)) (take (length l - (294 + n)) (drop (294 + n) l))) → r ≡ is_saved l
      by-check r d s = s ∙ ap sound (parts l card n d ∙ held l card n e k) ∙ saved_sound

-- ---- each way out

-- refused with the number k
pub restore-refused : (card : Card) (t p l : List ℕ) (r : Outcome) (k : ℕ) → restore_refusal l (length t) (length p) ≡ k → eqb k 0 ≡ false → r ≡ refused_with card k
    → after r t p [] ≡ restore_of (world_of card t p) l
restore-refused card t p l r k e z q = ap (λ (x : Outcome). after x t p []) q ∙ sym (RestoreCalls.restore-refused (world_of card t p) l k e z)

-- 20
pub no_image : (l : List ℕ) → length l < 294 → (t p : ℕ) → restore_refusal l t p ≡ 20
no_image l h t p = RestoreCalls.too_short l t p h

module _ (l : List ℕ) (long : 294 ≤ length l) (b : Bool) (e : b ≡ same (take 3 l) mark) where
  pub no_mark : not b ≡ true → (t p : ℕ) → restore_refusal l t p ≡ 20
  no_mark h t p = RestoreCalls.no_mark l t p long (sym e ∙ not-true b h)

  module _ (y : not b ≡ false) (v : ℕ) (d : v ≡ word16 l 3) where
    -- 21
    pub other_version : (v ≡ 1 → ⊥) → (t p : ℕ) → restore_refusal l t p ≡ 21
    other_version h t p = RestoreCalls.other_version l t p long (sym e ∙ not-false b y) (λ one. h (d ∙ one))

    pub is-image : v ≡ 1 → (same (take 3 l) mark ≡ true) × (word16 l 3 ≡ 1)
    is-image one = (sym e ∙ not-false b y, sym d ∙ one)

-- 22: an image that passed these checks
pub not_saved : (l : List ℕ) → 294 ≤ length l → (same (take 3 l) mark ≡ true) × (word16 l 3 ≡ 1) → (a : Bool) → a ≡ is_saved l → not a ≡ true
    → (t p : ℕ) → restore_refusal l t p ≡ 22
not_saved l long i a s h t p = RestoreCalls.not_saved l t p (record { long = long; marked = i.0; version = i.1 }) (sym s ∙ not-true a h)

-- one that passed 22, too
pub passed : (l : List ℕ) → 294 ≤ length l → (same (take 3 l) mark ≡ true) × (word16 l 3 ≡ 1) → (a : Bool) → a ≡ is_saved l → not a ≡ false
    → (card : Card) (n : ℕ) → card ≡ card_of (world_in l) → n ≡ table_bytes (shape_of card.function.config) → Saved l card n
passed l long i a s y card n e k = record { long = long; image = i; saved = sym s ∙ not-false a y; is_card = e; is_length = k }

module _ (l : List ℕ) (card' : Card) (n : ℕ) (k : Saved l card' n) where
  is-sound : sound (world_in l) ≡ true
  is-sound = RestoreCalls.saved_sound l k.saved

  pub room : 294 + n ≤ length l
  room = whole l card' n k.is_card k.is_length k.long is-sound

  table-held : length (world_in l).endpoint.table ≡ n
  table-held = table_is l card' n k.is_card k.is_length k.long is-sound

  pending-held : length (world_in l).endpoint.pending ≡ length l - 294 - n
  pending-held = pending-is l card' n k.is_card k.is_length k.long is-sound

  checked : IsImage l
  checked = record { long = k.long; marked = k.image.0; version = k.image.1 }

  -- 17
  module _ (card : Card) (t p : List ℕ) where
    pub other-table : (r : Outcome) → (length t ≡ n → ⊥) → r ≡ refused_with card 17 → after r t p [] ≡ restore_of (world_of card t p) l
    other-table r h q =
        restore-refused card t p l r 17 (RestoreCalls.other-table l (length t) (length p) checked k.saved (λ e. h (e ∙ table-held))) refl q

    module _ (f : length t ≡ n) where
      pub other-pending : (r : Outcome) → (length p ≡ length l - 294 - n → ⊥) → r ≡ refused_with card 17 → after r t p [] ≡ restore_of (world_of card t p) l
      other-pending r h q =
          restore-refused card t p l r 17
          (RestoreCalls.other-pending l (length t) (length p) checked k.saved (f ∙ sym table-held) (λ e. h (e ∙ pending-held))) refl q

      -- accepted: the buffers are filled
      module _ (g : length p ≡ length l - 294 - n) where
        pub filled : length l ≡ image_size (length t) (length p)
        filled = omega (arith, room, f, g)

        pub restored : (t' p' : List ℕ) (r : Outcome) → t' ≡ take (length t) (drop 294 l) → p' ≡ drop (length t) (drop 294 l) → r ≡ accepted_with card' Done 0
            → after r t' p' [] ≡ restore_of (world_of card t p) l
        restored t' p' r i j q =
            rw (q, i, j)
            (ap (λ (m : ℕ). accepted (world_of card' (take m (drop 294 l)) (drop m (drop 294 l))) Done [] []) f
            ∙ ap (λ (w : World). accepted w Done [] []) (held l card' n k.is_card k.is_length)
            ∙ sym (RestoreCalls.restore-accepted (world_of card t p) l (none-refuses l (length t) (length p) checked k.saved (f ∙ sym table-held) (g ∙ sym pending-held))))
