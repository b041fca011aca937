-- A restore: its checks in their order, and what the card of an image is. Assumes nothing.
use mathlib.Core.Path.{◌≡◌, refl, sym, ap, ◌∙◌}
use mathlib.Core.Bool.{Bool, true, false, not, ◌&&◌, ◌||◌}
use mathlib.Core.List.{List, [], ◌∷◌}
use Prim.Native.Nat.{ℕ, ◌+◌, ◌≤◌, ◌<◌}
use native.Mathlib.Omega.{arith}
use lib.Dec.{ltb, eqb}
use lib.ListN.{length, take, drop, take-append-drop, length-append, length-drop}
use borrow.Author.Tests.{eq-eqb, ne_eqb, lt-ltb, le-ltb}
use Rattle.words.specs.Lists.{same, first_of}
use Rattle.words.specs.Bits.{bit}
use Rattle.words.specs.Bytes.{byte, word16, Bytes}
use Rattle.words.proofs.BoolLaws.{both}
use Rattle.words.proofs.ListLaws.{same_true}
use Rattle.model.specs.declared.Answer.TheVariants.{Done}
use Rattle.model.specs.Shape.{shape_of, table_bytes}
use Rattle.model.specs.World.{World, world_of, card_of}
use Rattle.model.specs.Sound.{sound}
use Rattle.model.specs.Image.{mark, image_of, function_in, world_in, is_saved, restore_refusal}
use Rattle.model.specs.Calls.{refused, accepted, restore_of}
use Rattle.model.proofs.Calls.CallLaws.{answered_yes, answered_no}
use Rattle.model.proofs.Image.ImageBack.{image_same}

-- ---- the call

module _ (w : World) (l : List ℕ) where
  pub restore-refused : (n : ℕ) → restore_refusal l (length w.endpoint.table) (length w.endpoint.pending) ≡ n → eqb n 0 ≡ false → restore_of w l ≡ refused w n []
  unfolding restore_of
  restore-refused n e z =
      answered_no (restore_refusal l (length w.endpoint.table) (length w.endpoint.pending)) _ _ (ap (λ (k : ℕ). eqb k 0) e ∙ z)
      ∙ ap (λ (k : ℕ). refused w k []) e

  pub restore-accepted : restore_refusal l (length w.endpoint.table) (length w.endpoint.pending) ≡ 0 → restore_of w l ≡ accepted (world_in l) Done [] []
  unfolding restore_of
  restore-accepted e = answered_yes (restore_refusal l (length w.endpoint.table) (length w.endpoint.pending)) _ _ e

-- ---- the checks, over buffers of t and p bytes

-- it passed 20 and 21
pub record IsImage (l : List ℕ) : Type 0 where
  pub long : 294 ≤ length l
  pub marked : same (take 3 l) mark ≡ true
  pub version : word16 l 3 ≡ 1

module _ (l : List ℕ) (t p : ℕ) where
  -- 20
  pub too_short : length l < 294 → restore_refusal l t p ≡ 20
  unfolding restore_refusal first_of
  too_short h = rw (lt-ltb (length l) 294 h)

  module _ (long : 294 ≤ length l) where
    pub no_mark : same (take 3 l) mark ≡ false → restore_refusal l t p ≡ 20
    unfolding restore_refusal first_of
    no_mark e = rw (le-ltb (length l) 294 long, e)

    -- 21
    pub other_version : same (take 3 l) mark ≡ true → (word16 l 3 ≡ 1 → ⊥) → restore_refusal l t p ≡ 21
    unfolding restore_refusal first_of
    other_version e v = rw (le-ltb (length l) 294 long, e, ne_eqb (word16 l 3) 1 v)

  module _ (i : IsImage l) where
    -- the checks behind them
    later : restore_refusal l t p
        ≡ first_of ((22, not (is_saved l)) ∷ (17, not (eqb t (length (world_in l).endpoint.table)) || not (eqb p (length (world_in l).endpoint.pending))) ∷ [])
    unfolding restore_refusal first_of
    later = rw (le-ltb (length l) 294 i.long, i.marked, i.version)

    -- 22
    pub not_saved : is_saved l ≡ false → restore_refusal l t p ≡ 22
    unfolding first_of
    not_saved e = later ∙ rw e

    -- 17
    module _ (s : is_saved l ≡ true) where
      pub other-table : (t ≡ length (world_in l).endpoint.table → ⊥) → restore_refusal l t p ≡ 17
      unfolding first_of
      other-table h = later ∙ rw (s, ne_eqb t (length (world_in l).endpoint.table) h)

      module _ (e : t ≡ length (world_in l).endpoint.table) where
        pub other-pending : (p ≡ length (world_in l).endpoint.pending → ⊥) → restore_refusal l t p ≡ 17
        unfolding first_of
        other-pending h = later ∙ rw (s, eq-eqb t (length (world_in l).endpoint.table) e, ne_eqb p (length (world_in l).endpoint.pending) h)

        pub none-refuses : p ≡ length (world_in l).endpoint.pending → restore_refusal l t p ≡ 0
        unfolding first_of
        none-refuses f = later ∙ rw (s, eq-eqb t (length (world_in l).endpoint.table) e, eq-eqb p (length (world_in l).endpoint.pending) f)

-- ---- whether a sound card saves an image

pub saved_is : (l : List ℕ) → Bytes l → IsImage l → is_saved l ≡ (sound (world_in l) && ltb (byte l 5) 4)
unfolding is_saved
saved_is l b i = ap (λ (t : Bool). sound (world_in l) && t) (image_same l b i.long (same_true (take 3 l) mark i.marked) i.version)

pub saved_sound : (l : List ℕ) → is_saved l ≡ true → sound (world_in l) ≡ true
unfolding is_saved
saved_sound l s = (both (sound (world_in l)) (same (image_of (world_in l)) l) s).0

-- ---- the card that an image holds, and its buffers

pub card-held : (l : List ℕ) → card_of (world_in l) ≡ record { function = function_in l; wire = bit (byte l 5) 1 }
unfolding world_in
card-held l = refl

-- with a table of n bytes
pub buffers_held : (l : List ℕ) (n : ℕ) → n ≡ table_bytes (shape_of (world_in l).endpoint.function.config)
    → world_of (card_of (world_in l)) (take n (drop 294 l)) (drop n (drop 294 l)) ≡ world_in l
unfolding world_in
buffers_held l n e = rw e

-- the buffers are all that stands from byte 294 on
pub held-lengths : (l : List ℕ) → 294 ≤ length l → 294 + length (world_in l).endpoint.table + length (world_in l).endpoint.pending ≡ length l
unfolding world_in
held-lengths l h =
    let n : ℕ = table_bytes (shape_of (function_in l).config) in
    let d : List ℕ = drop 294 l in
    let e : length (take n d) + length (drop n d) ≡ length d = sym (length-append (take n d) (drop n d)) ∙ ap length (take-append-drop n d) in
    omega (arith, e, length-drop 294 l)
