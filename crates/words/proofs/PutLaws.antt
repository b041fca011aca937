-- Loops that store bytes one behind another, that copy a list and that fill an array. Their invariant: the bytes that are still to be
-- stored, put from the next place on, give the whole result w. Assumes nothing.
use mathlib.Core.Path.{◌≡◌, sym, ap, ◌∙◌}
use mathlib.Core.List.{List, [], ◌∷◌, ◌++◌, append_assoc, append-nil}
use Prim.Native.Nat.{ℕ, suc, ◌+◌, ◌≤◌, ◌<◌}
use native.Mathlib.Numerals.{add-one}
use native.Mathlib.Omega.{arith}
use lib.ListN.{length, take, drop, set, take-append-drop, drop_of_length-le}
use lib.Seq.{take-suc-set, drop-set-lt, drop-cons, drop-drop}
use Rattle.words.specs.Bytes.{byte}
use Rattle.words.specs.Writers.{over, put_at}

put_one : (i x : ℕ) (q o : List ℕ) → i < length o → put_at (i + 1) q (set o i x) ≡ put_at i (x ∷ q) o
put_one i x q o h =
    let n = length q in
    let t : take (i + 1) (set o i x) ≡ take i o ++ (x ∷ []) = rw add-one (take-suc-set o i x h) in
    let d : drop (i + 1) (set o i x) ≡ drop (i + 1) o = drop-set-lt (i + 1) o i x (omega arith) in
    let k : i + 1 + n ≡ i + suc n = omega arith in
    let e : drop n (drop (i + 1) o) ≡ drop (suc n) (drop i o) = drop-drop n (i + 1) o ∙ ap (λ (j : ℕ). drop j o) k ∙ sym (drop-drop (suc n) i o) in
    rw (t, d, e) (append_assoc (take i o) (x ∷ []) (q ++ drop (suc n) (drop i o)))

-- the first of those that are left is stored
pub put_next : (i x : ℕ) (p q o w : List ℕ) → i < length o → p ≡ x ∷ q → put_at i p o ≡ w → put_at (i + 1) q (set o i x) ≡ w
put_next i x p q o w h e g = put_one i x q o h ∙ ap (λ (l : List ℕ). put_at i l o) (sym e) ∙ g

-- none is left
pub put_end : (i : ℕ) (p o w : List ℕ) → p ≡ [] → put_at i p o ≡ w → o ≡ w
put_end i p o w e g = sym (take-append-drop i o) ∙ ap (λ (l : List ℕ). put_at i l o) (sym e) ∙ g

-- ---- the elements of s from place i on are still to be stored

module _ (s : List ℕ) (i : ℕ) (o w : List ℕ) (g : put_at i (drop i s) o ≡ w) where
  pub copy_next : i < length s → i < length o → put_at (i + 1) (drop (i + 1) s) (set o i (byte s i)) ≡ w
  copy_next h k = put_next i (byte s i) (drop i s) (drop (i + 1) s) o w k (rw add-one (drop-cons s i 0 h)) g

  pub copy_end : length s ≤ i → o ≡ w
  copy_end h = put_end i (drop i s) o w (drop_of_length-le s h) g

-- ---- an array of which each element is stored

-- all of a is written over
pub over-all : (w a : List ℕ) → length a ≤ length w → over w a ≡ w
over-all w a h = rw (drop_of_length-le a h, append-nil)

-- the elements of w from place i on are still to be stored
abbrev pub Filled : (w : List ℕ) (i : ℕ) (a : List ℕ) → Type 0
Filled w i a = (length a ≡ length w) × (put_at i (drop i w) a ≡ w)

pub fill_start : (w a : List ℕ) → length a ≡ length w → Filled w 0 a
fill_start w a h = (h, over-all w a (omega arith))

pub fill_next : (w a : List ℕ) (i x : ℕ) → i < length w → x ≡ byte w i → Filled w i a → length (set a i x) ≡ length a → Filled w (i + 1) (set a i x)
fill_next w a i x h e f k = (k ∙ f.0, rw e (copy_next w i a w f.1 h (omega arith)))

pub fill_end : (w a : List ℕ) (i : ℕ) → length w ≤ i → Filled w i a → a ≡ w
fill_end w a i h f = copy_end w i a w f.1 h
