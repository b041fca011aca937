-- Loops of writers, each behind the one before. Assumes nothing.
use mathlib.Core.Path.{◌≡◌, refl, sym, ap, ◌∙◌}
use mathlib.Core.List.{List, [], ◌∷◌, ◌++◌}
use Prim.Native.Nat.{ℕ, ◌+◌, ◌-◌, ◌≤◌, ◌<◌}
use native.Mathlib.Nat.{zero-add}
use native.Mathlib.Numerals.{add-one}
use native.Mathlib.Omega.{arith}
use lib.ListN.{length, drop, length-append, drop_of_length-le}
use lib.Seq.{drop-cons}
use borrow.Rule.Slice.PartMut.{put_mid, mid_of}
use Rattle.words.specs.Lists.{join}
use Rattle.words.specs.Bytes.{byte}
use Rattle.words.specs.Writers.{over, put_at, Wrote}
use Rattle.words.proofs.ListLaws.{join_first, join-none}
use Rattle.words.proofs.Writers.{placed, put-more}
use Rattle.words.proofs.PutLaws.{put_end}

-- of the bytes `all` those of `todo` are still to be written, from place `at` on; o₀ is the output as it was lent
pub record Sending (all o₀ o todo : List ℕ) (at : ℕ) : Type 0 where
  pub same : length o ≡ length o₀
  pub room : at + length todo ≡ length all
  pub whole : put_at at todo o ≡ over all o₀

pub sending_all : (all o₀ : List ℕ) → Sending all o₀ o₀ all 0
sending_all all o₀ = record { same = refl; room = zero-add (length all); whole = refl }

-- the bytes p are the first of those that are left
pub sending_fits : (all o₀ o todo : List ℕ) (at : ℕ) (p rest : List ℕ) → length all ≤ length o₀ → Sending all o₀ o todo at → todo ≡ p ++ rest → at + length p ≤ length o
sending_fits all o₀ o todo at p rest h s e = omega (arith, s.same, s.room, ap length e ∙ length-append p rest)

pub sending_next : (all o₀ o todo : List ℕ) (at : ℕ) (p rest o' : List ℕ) (n : ℕ) → length all ≤ length o₀ → Sending all o₀ o todo at → todo ≡ p ++ rest
    → n ≡ length p → length o' ≡ length o → o' ≡ put_at at p o → Sending all o₀ o' rest (at + n)
sending_next all o₀ o todo at p rest o' n h s e c l w = record {
  same = l ∙ s.same;
  room = omega (arith, s.room, ap length e ∙ length-append p rest);
  whole =
      let f : at ≤ length o = omega (arith, sending_fits all o₀ o todo at p rest h s e) in
      rw (w, c) (put-more at p rest o f) ∙ ap (λ (q : List ℕ). put_at at q o) (sym e) ∙ s.whole;
}

pub sending_done : (all o₀ o todo : List ℕ) (at : ℕ) → Sending all o₀ o todo at → todo ≡ [] → Wrote all o₀ at o
sending_done all o₀ o todo at s e = record { count = omega (arith, s.room, ap length e); bytes = put_end at todo o (over all o₀) e s.whole }

-- ---- one writer for each number of a list

-- the bytes of the numbers of z from the one at i on are still to be written
module _ (f : ℕ → List ℕ) (z : List ℕ) (i at : ℕ) (o w : List ℕ) (g : put_at at (join f (drop i z)) o ≡ w) where
  pub join-next : (n : ℕ) (ys : List ℕ) → i < length z → at ≤ length o → Wrote (f (byte z i)) (mid_of at (length o - at) o) n ys
      → put_at (at + n) (join f (drop (i + 1) z)) (put_mid at (length o - at) o ys) ≡ w
  join-next n ys h k v =
      let p = f (byte z i) in
      let q = join f (drop (i + 1) z) in
      let d : drop i z ≡ byte z i ∷ drop (i + 1) z = rw add-one (drop-cons z i 0 h) in
      rw v.count
      (ap (put_at (at + length p) q) (placed o at p ys v.bytes) ∙ put-more at p q o k
      ∙ ap (λ (l : List ℕ). put_at at l o) (sym (join_first f (byte z i) (drop i z) (drop (i + 1) z) d)) ∙ g)

  pub join_end : length z ≤ i → o ≡ w
  join_end h = put_end at (join f (drop i z)) o w (join-none f (drop i z) (drop_of_length-le z h)) g
