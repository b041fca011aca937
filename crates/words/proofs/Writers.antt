-- The laws of writers: a call on a part of a lent output seen from the whole, and two writers one behind the other. Assumes nothing.
use mathlib.Core.Path.{◌≡◌, sym, ap, ◌∙◌}
use mathlib.Core.List.{List, [], ◌++◌, append_assoc, append-nil}
use Prim.Native.Nat.{ℕ, ◌+◌, ◌-◌, ◌≤◌, zero-le}
use native.Mathlib.Nat.{zero-add}
use native.Mathlib.Omega.{arith}
use lib.ListN.{length, take, drop, length-append, length-drop, drop_of_length-le}
use lib.Seq.{take_all, take_at, drop_at, drop-drop, length-take-le}
use borrow.Rule.Slice.PartMut.{put_mid, mid_of}
use Rattle.words.specs.Writers.{over, put_at, Wrote}

-- what a call that was lent `&mut out[a..]` and put p over it leaves of the whole
pub placed : (xs : List ℕ) (a : ℕ) (p ys : List ℕ) → ys ≡ over p (mid_of a (length xs - a) xs) → put_mid a (length xs - a) xs ys ≡ put_at a p xs
placed xs a p ys e =
    let n : length (drop a xs) ≤ length xs - a = rw length-drop (omega arith) in
    let all : take (length xs - a) (drop a xs) ≡ drop a xs = take_all (length xs - a) (drop a xs) n in
    let none : drop (length xs - a) (drop a xs) ≡ [] = drop_of_length-le (drop a xs) n in
    rw (e, none, all, append-nil)

-- a second run of bytes right behind the first is the two runs as one
pub put-more : (a : ℕ) (p q o : List ℕ) → a ≤ length o → put_at (a + length p) q (put_at a p o) ≡ put_at a (p ++ q) o
put-more a p q o h =
    let d = take a o in
    let r = drop (length p) (drop a o) in
    let e : length (d ++ p) ≡ a + length p = length-append d p ∙ ap (λ (k : ℕ). k + length p) (length-take-le a o h) in
    let g : put_at a p o ≡ (d ++ p) ++ r = sym (append_assoc d p r) in
    ap (λ (l : List ℕ). put_at (a + length p) q l) g
    ∙ ap (λ (l : List ℕ). l ++ over q (drop (a + length p) ((d ++ p) ++ r))) (take_at (d ++ p) r (a + length p) e)
    ∙ ap (λ (l : List ℕ). (d ++ p) ++ over q l) (drop_at (d ++ p) r (a + length p) e)
    ∙ rw (drop-drop, length-append, append_assoc, append_assoc)

-- a second writer behind a first
pub both : (p q o o₁ o₂ : List ℕ) (at n : ℕ) → Wrote p o at o₁ → n ≡ length q → o₂ ≡ put_at at q o₁ → Wrote (p ++ q) o (at + n) o₂
both p q o o₁ o₂ at n w e f = record {
  count = rw length-append (omega (arith, w.count));
  bytes =
      f ∙ ap (put_at at q) w.bytes ∙ ap (λ (k : ℕ). put_at k q (over p o)) (w.count ∙ sym (zero-add (length p)))
      ∙ put-more 0 p q o zero-le;
}

-- the second is lent the output behind the first
pub behind : (p q o o₁ ys : List ℕ) (at n : ℕ) → Wrote p o at o₁ → Wrote q (mid_of at (length o₁ - at) o₁) n ys
    → Wrote (p ++ q) o (at + n) (put_mid at (length o₁ - at) o₁ ys)
behind p q o o₁ ys at n w v = both p q o o₁ _ at n w v.count (placed o₁ at q ys v.bytes)

-- ---- what a writer put at the start of an output

pub wrote-within : {p o o' : List ℕ} {r : ℕ} → Wrote p o r o' → r ≤ length o'
wrote-within {p} {o} w = rw (w.count, w.bytes, length-append) (omega arith)

pub wrote_front : {p o o' : List ℕ} {r : ℕ} → Wrote p o r o' → take r o' ≡ p
wrote_front {p} {o} {o'} {r} w = rw w.bytes (take_at p (drop (length p) o) r (sym w.count))
