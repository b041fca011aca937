-- The walk of the capability list, one pointer at a time. Assumes nothing.
use mathlib.Core.Path.{◌≡◌, refl, sym, ap, ap₂, ◌∙◌}
use mathlib.Core.Bool.{Bool, true, false, cond, ◌&&◌, true≢false}
use mathlib.Core.List.{List, [], ◌∷◌}
use mathlib.Core.Logic.{◌⊎◌, inl, inr}
use mathlib.Core.Option.{Option, none, some}
use Prim.Native.Nat.{ℕ, zero, suc, ◌+◌, ◌≤◌, ◌<◌}
use native.Mathlib.Omega.{arith}
use lib.Dec.{eqb, ltb}
use lib.ListN.{length}
use borrow.Author.Tests.{eq-eqb, ne_eqb, lt-ltb, le-ltb, eqb-true, eqb-false}
use Rattle.words.specs.Lists.{keep, all}
use Rattle.words.proofs.BoolLaws.{by_test}
use Rattle.words.specs.Bits.{bit}
use Rattle.words.specs.Bytes.{byte}
use Rattle.model.specs.Capabilities.{pointer, walk_step, walk, capabilities, broken, listed, with_id}
use Rattle.std.specs.Prelude as std
use Rattle.std.specs.Prelude.{Some, None}
use Rattle.std.specs.Bool.{then_some}
use Rattle.layout.specs.Places.{found_of, times, one_more, first_pointer, listing, listing_in, listing_of}
use Rattle.layout.specs.declared.capability.Found.{Found}
use Rattle.layout.specs.declared.capability.Found.TheVariants.{Nowhere, Once, Again}
use Rattle.layout.specs.declared.capability.Listing.{Listing}

-- one more place at most
one-counted : (f : Found) (hit : Bool) (a : ℕ) → times (cond hit (one_more f a) f) ≤ times f + 1
one-counted Nowhere true a = omega arith
one-counted (Once b) true a = omega arith
one-counted (Again b n) true a = omega arith
one-counted f false a = omega arith

pub counted : (f g : Found) (hit : Bool) (a : ℕ) → g ≡ cond hit (one_more f a) f → times g ≤ times f + 1
counted f g hit a e = rw e (one-counted f hit a)

pointer-zero : pointer 0 ≡ 0
unfolding pointer
pointer-zero = refl

module _ (c : List ℕ) where
  -- ---- what a pointer gives

  ended : (k p : ℕ) → pointer p ≡ 0 → walk c k p ≡ some []
  unfolding walk walk_step
  ended zero p e = rw (eq-eqb _ _ e)
  ended (suc k) p e = rw (eq-eqb _ _ e)

  low : (k p : ℕ) → (pointer p ≡ 0 → ⊥) → pointer p < 64 → walk c k p ≡ none
  unfolding walk walk_step
  low zero p h l = rw (ne_eqb _ _ h, lt-ltb _ _ l)
  low (suc k) p h l = rw (ne_eqb _ _ h, lt-ltb _ _ l)

  full : (p : ℕ) → (pointer p ≡ 0 → ⊥) → walk c 0 p ≡ none
  unfolding walk walk_step
  full p h = rw (ne_eqb _ _ h) (go (ltb (pointer p) 64))
    where
      go : (b : Bool) → walk_step false b (pointer p) none ≡ none
      go true = refl
      go false = refl

  no_more : (k p : ℕ) → (pointer p ≡ 0 → ⊥) → (pointer p < 64) ⊎ (k ≡ 0) → walk c k p ≡ none
  no_more k p h (inl l) = low k p h l
  no_more k p h (inr z) = ap (λ (k : ℕ). walk c k p) z ∙ full p h

  more : (k p : ℕ) → (pointer p ≡ 0 → ⊥) → 64 ≤ pointer p
      → walk c (suc k) p ≡ walk_step false false (pointer p) (walk c k (byte c (pointer p + 1)))
  unfolding walk
  more k p h l = rw (ne_eqb _ _ h, le-ltb _ _ l)

  pub from_first : walk c 48 (first_pointer c) ≡ capabilities c
  unfolding capabilities first_pointer
  from_first = go (bit (byte c 6) 4) (ended 48 0 pointer-zero)
    where
      go : (b : Bool) → walk c 48 0 ≡ some [] → walk c 48 (cond b (byte c 0x34) 0) ≡ cond b (walk c 48 (byte c 0x34)) (some [])
      go true e = refl
      go false e = e

  -- ---- what is still to do, applied to what was found so far

  unfoldable pub onward_of : Found → List ℕ → Found
  onward_of f [] = f
  onward_of f (a ∷ l) = onward_of (one_more f a) l

  unfoldable pub onward : Found → Found → Option (List ℕ) → std.Option Listing
  onward m x none = None
  onward m x (some l) = Some (listing (onward_of m (with_id c l 0x05)) (onward_of x (with_id c l 0x11)))

  onward_end : (m x : Found) → onward m x (some []) ≡ Some (listing m x)
  unfolding onward onward_of with_id keep
  onward_end m x = refl

  onward-broken : (m x : Found) → onward m x none ≡ None
  unfolding onward
  onward-broken m x = refl

  onward_id : (f : Found) (a : ℕ) (l : List ℕ) (id : ℕ) → onward_of f (with_id c (a ∷ l) id) ≡ onward_of (cond (eqb (byte c a) id) (one_more f a) f) (with_id c l id)
  unfolding onward_of with_id keep
  onward_id f a l id = go (eqb (byte c a) id)
    where
      rest : List ℕ
      rest = keep (λ o. eqb (byte c o) id) l

      go : (b : Bool) → onward_of f (cond b (a ∷ rest) rest) ≡ onward_of (cond b (one_more f a) f) rest
      go true = refl
      go false = refl

  onward-more : (m x : Found) (a : ℕ) (w : Option (List ℕ))
      → onward m x (walk_step false false a w)
      ≡ onward (cond (eqb (byte c a) 0x05) (one_more m a) m) (cond (eqb (byte c a) 0x11) (one_more x a) x) w
  unfolding onward walk_step
  onward-more m x a none = refl
  onward-more m x a (some l) = ap₂ (λ (m x : Found). Some (listing m x)) (onward_id m a l 0x05) (onward_id x a l 0x11)

  after_again : (a n : ℕ) (l : List ℕ) → onward_of (Again a n) l ≡ Again a (n + length l)
  unfolding onward_of
  after_again a n [] = ap (Again a) (let e : n ≡ n + 0 = omega arith in e)
  after_again a n (b ∷ l) = after_again a (n + 1) l ∙ ap (Again a) (let e : n + 1 + length l ≡ n + suc (length l) = omega arith in e)

  onward-all : (l : List ℕ) → onward_of Nowhere l ≡ found_of l
  unfolding onward_of found_of
  onward-all [] = refl
  onward-all (a ∷ []) = refl
  onward-all (a ∷ b ∷ l) = after_again a 2 l ∙ ap (Again a) (let e : 2 + length l ≡ suc (suc (length l)) = omega arith in e)

  -- the whole walk, from nothing found
  onward-first : (w : Option (List ℕ)) → onward Nowhere Nowhere w ≡ listing_in c w
  unfolding onward listing_in
  onward-first none = refl
  onward-first (some l) = ap₂ (λ (m x : Found). Some (listing m x)) (onward-all (with_id c l 0x05)) (onward-all (with_id c l 0x11))

  pub onward_list : onward Nowhere Nowhere (walk c 48 (first_pointer c)) ≡ listing_of c
  unfolding listing_of
  onward_list = onward-first (walk c 48 (first_pointer c)) ∙ ap (listing_in c) from_first

-- ---- the ways of a turn with room for k places, the pointer p and what was found so far

module _ (c : List ℕ) (m x : Found) (k p at : ℕ) (l : std.Option Listing) (e : at ≡ pointer p) (to-do : onward c m x (walk c k p) ≡ l) where
  pub turn_ends : at ≡ 0 → Some (listing m x) ≡ l
  turn_ends z = sym (onward_end c m x) ∙ ap (onward c m x) (sym (ended c k p (sym e ∙ z))) ∙ to-do

  turn_none : walk c k p ≡ none → None ≡ l
  turn_none h = sym (onward-broken c m x) ∙ ap (onward c m x) (sym h) ∙ to-do

  -- the end of the list, or one that is broken
  pub turn_over : (pointer p < 64) ⊎ (k ≡ 0) → then_some (eqb at 0) (listing m x) ≡ l
  turn_over h =
      by_test (eqb at 0)
      (λ t. rw t (turn_ends (eqb-true at 0 t)))
      (λ t. rw t (turn_none (no_more c k p (λ q. eqb-false at 0 t (e ∙ q)) h)))

  pub turn_more : (j : ℕ) → k ≡ suc j → 64 ≤ at
      → onward c (cond (eqb (byte c at) 0x05) (one_more m at) m) (cond (eqb (byte c at) 0x11) (one_more x at) x) (walk c j (byte c (at + 1))) ≡ l
  turn_more j d h =
      sym (onward-more c m x at (walk c j (byte c (at + 1))))
      ∙ ap (onward c m x)
      (ap (λ (a : ℕ). walk_step false false a (walk c j (byte c (a + 1)))) e
      ∙ sym (more c j p (λ q. omega arith) (omega arith)) ∙ ap (λ (k : ℕ). walk c k p) (sym d))
      ∙ to-do

-- ---- a test of every listed place of a list that is not broken

sound-step : (f : ℕ → Bool) (a : ℕ) (w : Option (List ℕ)) → broken (walk_step false false a w) ≡ false
    → (broken w ≡ false) × (all f (listed (walk_step false false a w)) ≡ (f a && all f (listed w)))
unfolding walk_step broken listed all
sound-step f a none b = absurd (true≢false b)
sound-step f a (some l) b = (refl, refl)

not_none : (w : Option (List ℕ)) → broken w ≡ false → w ≡ none → ⊥
unfolding broken
not_none w b e = true≢false (sym (ap broken e) ∙ b)

all_none : (f : ℕ → Bool) (w : Option (List ℕ)) → w ≡ some [] → all f (listed w) ≡ true
unfolding all listed
all_none f w e = ap (λ (w : Option (List ℕ)). all f (listed w)) e

-- the ways of a turn with room for k places and the pointer p
module _ (c : List ℕ) (f : ℕ → Bool) (k p : ℕ) (whole : Bool)
    (sound : broken (walk c k p) ≡ false) (to-do : all f (listed (walk c k p)) ≡ whole) where
  pub test_over : (pointer p < 64) ⊎ (k ≡ 0) → whole ≡ true
  test_over h =
      by_test (eqb (pointer p) 0)
      (λ t. sym to-do ∙ all_none f (walk c k p) (ended c k p (eqb-true (pointer p) 0 t)))
      (λ t. absurd (not_none (walk c k p) sound (no_more c k p (eqb-false (pointer p) 0 t) h)))

  module _ (j at : ℕ) (d : k ≡ suc j) (e : at ≡ pointer p) (h : 64 ≤ at) where
    step_is : walk c k p ≡ walk_step false false at (walk c j (byte c (at + 1)))
    step_is =
        ap (λ (k : ℕ). walk c k p) d ∙ more c j p (λ q. omega arith) (omega arith)
        ∙ ap (λ (a : ℕ). walk_step false false a (walk c j (byte c (a + 1)))) (sym e)

    both_parts : (broken (walk c j (byte c (at + 1))) ≡ false) × ((f at && all f (listed (walk c j (byte c (at + 1))))) ≡ whole)
    both_parts =
        let q = sound-step f at (walk c j (byte c (at + 1))) (sym (ap broken step_is) ∙ sound) in
        (q.0, sym q.1 ∙ sym (ap (λ (w : Option (List ℕ)). all f (listed w)) step_is) ∙ to-do)

    pub test_fails : f at ≡ false → whole ≡ false
    test_fails t = sym both_parts.1 ∙ ap (λ (b : Bool). b && all f (listed (walk c j (byte c (at + 1))))) t

    pub test_more : f at ≡ true → (broken (walk c j (byte c (at + 1))) ≡ false) × (all f (listed (walk c j (byte c (at + 1)))) ≡ whole)
    test_more t =
        let q = both_parts in
        (q.0, sym (ap (λ (b : Bool). b && all f (listed (walk c j (byte c (at + 1))))) t) ∙ q.1)
