-- What stands at each place of a list where bytes q were put from place k on. Assumes nothing.
use mathlib.Core.Path.{◌≡◌, sym, ap, ◌∙◌}
use mathlib.Core.Bool.{false, false≢true}
use mathlib.Core.List.{List, ◌++◌}
use Prim.Native.Nat.{ℕ, ◌+◌, ◌-◌, ◌≤◌, ◌<◌}
use native.Mathlib.Omega.{arith}
use lib.Dec.{ltb}
use lib.ListN.{length, take, drop, length-append, length-drop, get_or-append}
use lib.Seq.{length-take-le, get_or-append-add, get_or-take, get_or-drop}
use borrow.Author.Tests.{ltb-true, ltb-false}
use Rattle.words.specs.Lists.{within}
use Rattle.words.specs.Bytes.{byte, Bytes}
use Rattle.words.specs.Writers.{put_at}
use Rattle.words.proofs.BoolLaws.{by_test}
use Rattle.words.proofs.ListLaws.{within-true, true-within}

module _ (k : ℕ) (q p : List ℕ) (h : k + length q ≤ length p) where
  pub length-put : length (put_at k q p) ≡ length p
  length-put =
      rw (length-append, length-append, length-drop, length-drop, length-take-le k p (omega arith)) (omega arith)

  byte_before : (i : ℕ) → i < k → byte (put_at k q p) i ≡ byte p i
  byte_before i l =
      get_or-append (take k p) (q ++ drop (length q) (drop k p)) 0 i (rw (length-take-le k p (omega arith)) l) ∙ get_or-take k p i 0 l

  byte_from : (i : ℕ) → byte (put_at k q p) (k + i) ≡ byte (q ++ drop (length q) (drop k p)) i
  byte_from i =
      ap (λ (n : ℕ). byte (put_at k q p) (n + i)) (sym (length-take-le k p (omega arith)))
      ∙ get_or-append-add (take k p) (q ++ drop (length q) (drop k p)) i 0

  pub byte_here : (i : ℕ) → i < length q → byte (put_at k q p) (k + i) ≡ byte q i
  byte_here i l = byte_from i ∙ get_or-append q (drop (length q) (drop k p)) 0 i l

  byte-behind : (i : ℕ) → byte (put_at k q p) (k + (length q + i)) ≡ byte p (k + (length q + i))
  byte-behind i =
      byte_from (length q + i) ∙ get_or-append-add q (drop (length q) (drop k p)) i 0 ∙ get_or-drop (length q) (drop k p) i 0
      ∙ get_or-drop k p (length q + i) 0

  pub byte_other : (i : ℕ) → within k (length q) i ≡ false → byte (put_at k q p) i ≡ byte p i
  byte_other i t =
      by_test (ltb i k) (λ s. byte_before i (ltb-true i k s))
      (λ s.
      let g : k ≤ i = ltb-false i k s in
      by_test (ltb i (k + length q)) (λ z. absurd (false≢true (sym t ∙ true-within k (length q) i g (ltb-true i (k + length q) z))))
      (λ z.
      let f : k + length q ≤ i = ltb-false i (k + length q) z in
      let e : k + (length q + (i - k - length q)) ≡ i = omega arith in
      rw e at (byte-behind (i - k - length q))))

  pub bytes-put : Bytes q → Bytes p → Bytes (put_at k q p)
  bytes-put a b i =
      by_test (within k (length q) i)
      (λ t.
      let m = within-true k (length q) i t in
      let e : k + (i - k) ≡ i = omega (arith, m) in
      let d : byte (put_at k q p) i ≡ byte q (i - k) = rw e at (byte_here (i - k) (omega (arith, m))) in
      rw d (a (i - k)))
      (λ t. rw (byte_other i t) (b i))
